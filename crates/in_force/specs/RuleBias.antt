-- Which bias a rule puts in force at a UTC tick.
use Rattle.std.specs.Prelude.{ℕ, Bool, false, cond, ◌&&◌, ◌||◌, ℤ, nat_le, nat_lt}
use Rattle.days.specs.Ticks.{year_of}
use Rattle.zone.specs.declared.rules.Rule.{Rule}
use Rattle.zone.specs.Dates.{is_set}
use Rattle.zone.specs.Rules.{standard_sum, daylight_sum}
use Rattle.in_force.specs.Switches.{switches_in, daylight_start, standard_start}

-- If D < S, from D to before S; if S < D, before S and from D on; if they are equal, never.
abbrev pub daylight_between : ℕ → ℕ → ℕ → Bool
daylight_between D S u = cond (nat_lt D S) (nat_le D u && nat_lt u S) (cond (nat_lt S D) (nat_lt u S || nat_le D u) false)

-- never where the dates are not set or belong to another year than that of u
unfoldable pub is_daylight : Rule → ℕ → Bool
is_daylight r u =
    let y : ℕ = year_of u in
    switches_in y r && daylight_between (daylight_start y r) (standard_start y r) u

-- In daylight time the daylight bias sum, else the standard bias sum, and with dates not set Bias alone.
unfoldable pub bias_of : Rule → ℕ → ℤ
bias_of r u = cond (is_set r.standard_date) (cond (is_daylight r u) (daylight_sum r) (standard_sum r)) r.bias
