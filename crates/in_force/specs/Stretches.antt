-- The stretch of ticks from u on, within a UTC year, over which a rule's bias stays.
use Rattle.std.specs.Prelude.{ℕ, ◌+◌, cond, ◌&&◌, nat_lt}
use Rattle.days.specs.Ticks.{year_tick}
use Rattle.zone.specs.declared.rules.Rule.{Rule}
use Rattle.in_force.specs.declared.rule_bias.YearBias.{YearBias}
use Rattle.in_force.specs.declared.stretches.Stretch.{Stretch}
use Rattle.in_force.specs.Switches.{switches_in, daylight_start, standard_start}
use Rattle.in_force.specs.RuleBias.{is_daylight, bias_of}

-- the sooner of t and e, where t counts only after u
unfoldable pub sooner_after : ℕ → ℕ → ℕ → ℕ
sooner_after u t e = cond (nat_lt u t && nat_lt t e) t e

-- the soonest after u of a year's two starts, and an end
abbrev pub next_change : YearBias → ℕ → ℕ → ℕ
next_change k u end = sooner_after u k.daylight_start (sooner_after u k.standard_start end)

-- the soonest after u of D, S and the first tick of the next year; D and S only where the rule switches in year y
unfoldable pub stretch_end : Rule → ℕ → ℕ → ℕ
stretch_end r y u =
    cond (switches_in y r)
    (sooner_after u (daylight_start y r) (sooner_after u (standard_start y r) (year_tick (y + 1))))
    (year_tick (y + 1))

-- u is a tick of year y
unfoldable pub stretch_in : Rule → ℕ → ℕ → Stretch
stretch_in r y u = record { bias = bias_of r u; daylight = is_daylight r u; end = stretch_end r y u }
