-- When a rule switches to daylight and to standard time in a year.
use Rattle.std.specs.Prelude.{ℕ, ◌+◌, ◌-◌, Bool, cond, ◌&&◌, ◌||◌, List, length, ◌==◌, nat_eq, Option, Some, None, slice_get}
use Rattle.days.specs.Months.{days_in_month}
use Rattle.days.specs.Dates.{day_number, weekday}
use Rattle.days.specs.Counting.{among}
use Rattle.calendar.specs.Fields.{tick_of}
use Rattle.zone.specs.declared.dates.SystemTime.{SystemTime}
use Rattle.zone.specs.declared.rules.Rule.{Rule}
use Rattle.zone.specs.Dates.{is_set, is_yearly}
use Rattle.in_force.specs.Biases.{plus_bias}
use Rattle.zone.specs.Rules.{standard_sum, daylight_sum}

-- the days of month m of year y that have weekday w, first to last
unfoldable pub days_with : ℕ → ℕ → ℕ → List ℕ
days_with y m w = among (λ d. nat_eq (weekday (day_number y m d)) w) 1 (days_in_month y m + 1)

-- an occurrence: 1 is the first one, and 5 means the last one
abbrev pub occurrence : ℕ → List ℕ → Option ℕ
occurrence k days = slice_get days (cond (k == 5) (length days - 1) (k - 1))

-- the day of the month on which a date falls in year y: there is one for every date that keeps its rule, by the law `has-day`
unfoldable pub switch_day : ℕ → SystemTime → Option ℕ
switch_day y d = cond (is_yearly d) (occurrence d.day (days_with y d.month d.weekday)) (Some d.day)

-- the local tick of a date in year y
abbrev pub tick_on_day : ℕ → SystemTime → Option ℕ → ℕ
tick_on_day y d None = 0
tick_on_day y d (Some n) = tick_of y d.month n d.hour d.minute d.second d.millisecond

unfoldable pub switch_tick : ℕ → SystemTime → ℕ
switch_tick y d = tick_on_day y d (switch_day y d)

-- the rule has switch dates in year y: they are set, and of every year or of that one
abbrev pub switches_in : ℕ → Rule → Bool
switches_in y r = is_set r.standard_date && (is_yearly r.standard_date || r.standard_date.year == y)

-- D: the daylight date in y plus the standard bias sum. S: the standard date in y plus the daylight bias sum.
abbrev pub daylight_start : ℕ → Rule → ℕ
daylight_start y r = plus_bias (switch_tick y r.daylight_date) (standard_sum r)

abbrev pub standard_start : ℕ → Rule → ℕ
standard_start y r = plus_bias (switch_tick y r.standard_date) (daylight_sum r)
