-- The rule in force, and what it puts in force at a UTC tick.
use Rattle.std.specs.Prelude.{ℕ, Bool, true, false, cond, List, [], ◌∷◌, ℤ, pos, leb, Option, Some, None}
use Rattle.days.specs.Ticks.{year_of}
use Rattle.zone.specs.declared.rules.Rule.{Rule}
use Rattle.in_force.specs.Biases.{less_bias}
use Rattle.in_force.specs.RuleBias.{is_daylight, bias_of}

unfoldable pub not_after : Rule → ℕ → Bool
not_after r y = leb r.year y

-- a later rule that is not after the year, or else this one
abbrev pub or_this : Option Rule → Rule → ℕ → Option Rule
or_this (Some later) r y = Some later
or_this None r y = cond (not_after r y) (Some r) None

-- The rule with the greatest year not after y, if there is one. A row's years rise, so that is the last one not after y: the law `greatest` says so.
unfoldable pub rule_in_force : List Rule → ℕ → Option Rule
rule_in_force [] y = None
rule_in_force (r ∷ row) y = or_this (rule_in_force row y) r y

-- a tick before the first rule's year has no rule (16)
abbrev pub is_rule : Option Rule → Bool
is_rule None = false
is_rule (Some r) = true

abbrev pub has_rule : List Rule → ℕ → Bool
has_rule row u = is_rule (rule_in_force row (year_of u))

-- what is in force at u under the rule of its UTC year; where there is no rule nobody asks
abbrev pub bias_under : Option Rule → ℕ → ℤ
bias_under None u = pos 0
bias_under (Some r) u = bias_of r u

unfoldable pub bias_in_force : List Rule → ℕ → ℤ
bias_in_force row u = bias_under (rule_in_force row (year_of u)) u

abbrev pub daylight_under : Option Rule → ℕ → Bool
daylight_under None u = false
daylight_under (Some r) u = is_daylight r u

unfoldable pub daylight_in_force : List Rule → ℕ → Bool
daylight_in_force row u = daylight_under (rule_in_force row (year_of u)) u

-- the local tick that u shows
abbrev pub local_of : List Rule → ℕ → ℕ
local_of row u = less_bias u (bias_in_force row u)
