-- What is in force over one UTC year: under the rule of that year, if there is one.
use Rattle.std.specs.Prelude.{ℕ, List, pos, Option, Some, None}
use Rattle.zone.specs.declared.rules.Rule.{Rule}
use Rattle.in_force.specs.declared.rule_bias.YearBias.{YearBias}
use Rattle.in_force.specs.Steps.{one_bias, year_bias}
use Rattle.rows.specs.Search.{rule_in_force}

abbrev pub year_found : Option Rule → ℕ → YearBias
year_found (Some r) y = year_bias y r
year_found None y = one_bias (pos 0)

unfoldable pub year_in_force : List Rule → ℕ → YearBias
year_in_force row y = year_found (rule_in_force row y) y
