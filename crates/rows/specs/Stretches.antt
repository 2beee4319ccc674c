-- The stretch of UTC ticks from u on over which a row's bias stays: that of the rule in force, within the UTC year of u.
use Rattle.std.specs.Prelude.{ℕ, ◌+◌, false, List, pos, Option, Some, None}
use Rattle.days.specs.Ticks.{year_of, year_tick}
use Rattle.zone.specs.declared.rules.Rule.{Rule}
use Rattle.in_force.specs.declared.stretches.Stretch.{Stretch}
use Rattle.in_force.specs.Stretches.{stretch_in}
use Rattle.rows.specs.Search.{rule_in_force}

abbrev pub stretch_under : Option Rule → ℕ → Stretch
stretch_under (Some r) u = stretch_in r (year_of u) u
stretch_under None u = record { bias = pos 0; daylight = false; end = year_tick (year_of u + 1) }

unfoldable pub stretch_at : List Rule → ℕ → Stretch
stretch_at row u = stretch_under (rule_in_force row (year_of u)) u
