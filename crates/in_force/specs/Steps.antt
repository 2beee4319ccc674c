-- What inner functions are handed and give. No public contract rests on these: laws show that they are the definitions' values.
use Rattle.std.specs.Prelude.{◌≡◌, ℕ, ◌+◌, ◌-◌, ◌*◌, ◌%◌, ◌≤◌, Bool, cond, not, ◌&&◌, List, [], ◌∷◌, ◌++◌, ℤ, pos, negsuc, ◌==◌, nat_le, nat_lt, Option, Some, None}
use Rattle.days.specs.Dates.{day_number}
use Rattle.days.specs.Ticks.{millisecond, second, minute, hour, day, year_of, year_tick}
use Rattle.calendar.specs.Ranges.{within}
use Rattle.zone.specs.declared.dates.SystemTime.{SystemTime}
use Rattle.zone.specs.declared.rules.Rule.{Rule}
use Rattle.in_force.specs.declared.rule_bias.YearBias.{YearBias}
use Rattle.zone.specs.Dates.{is_set}
use Rattle.in_force.specs.Biases.{plus_bias, less_bias}
use Rattle.zone.specs.Rules.{standard_sum, daylight_sum}
use Rattle.in_force.specs.Switches.{switch_day, switches_in, daylight_start, standard_start}
use Rattle.in_force.specs.RuleBias.{daylight_between}

-- a bias of the range plus 1440, as a number
abbrev pub raised_bias : ℤ → ℕ
raised_bias (pos n) = 1440 + n
raised_bias (negsuc n) = 1439 - n

-- what a valid date's fields keep to
pub record Valid (d : SystemTime) : Type 0 where
  pub month1 : 1 ≤ d.month
  pub month12 : d.month ≤ 12
  pub day1 : 1 ≤ d.day
  pub day31 : d.day ≤ 31
  pub yearly6 : d.year ≡ 0 → d.weekday ≤ 6
  pub yearly5 : d.year ≡ 0 → d.day ≤ 5
  pub hour23 : d.hour ≤ 23
  pub minute59 : d.minute ≤ 59
  pub second59 : d.second ≤ 59
  pub millisecond999 : d.millisecond ≤ 999

-- in a month of `len` days whose first day has weekday `first`: the first day with weekday w, and the kth one, where 5 is the last one
abbrev pub first_day : ℕ → ℕ → ℕ
first_day first w = 1 + (w + 7 - first) % 7

unfoldable pub nth_day : ℕ → ℕ → ℕ → ℕ → ℕ
nth_day first w k len = cond (nat_lt k 5) (first_day first w + 7 * (k - 1)) (cond (nat_le (first_day first w + 28) len) (first_day first w + 28) (first_day first w + 21))

-- the day on which a date falls, counted from 1601-01-01
abbrev pub day_on : ℕ → SystemTime → Option ℕ → ℕ
day_on y d None = 0
day_on y d (Some n) = day_number y d.month n

unfoldable pub switch_day_of : ℕ → SystemTime → ℕ
switch_day_of y d = day_on y d (switch_day y d)

-- the local tick of a date's time on a day
abbrev pub tick_on_date : ℕ → SystemTime → ℕ
tick_on_date n d = n * day + d.hour * hour + d.minute * minute + d.second * second + d.millisecond * millisecond

-- a year with one bias: daylight time starts as standard time does, and so never is
abbrev pub one_bias : ℤ → YearBias
one_bias b = record { daylight_start = 0; standard_start = 0; standard = b; daylight = b }

-- a rule's year: when daylight and standard time start, and the bias in each
unfoldable pub year_bias : ℕ → Rule → YearBias
year_bias y r =
    cond (switches_in y r)
    (record { daylight_start = daylight_start y r; standard_start = standard_start y r; standard = standard_sum r; daylight = daylight_sum r })
    (one_bias (cond (is_set r.standard_date) (standard_sum r) r.bias))

-- the bias at a tick of that year
unfoldable pub bias_at : YearBias → ℕ → ℤ
bias_at k u = cond (daylight_between k.daylight_start k.standard_start u) k.daylight k.standard

-- u shows the local tick l, as that year has it
unfoldable pub shows_at : YearBias → ℕ → ℕ → Bool
shows_at k l u = less_bias u (bias_at k u) == l

-- ---- what shows a local tick, without a search: each tick that could is tried
-- x in daylight time and y else, each where its mark is set, the sooner first
abbrev pub shown_of : YearBias → ℕ → Bool → ℕ → Bool → List ℕ
shown_of k x i y j =
    let in_daylight : List ℕ = cond (i && daylight_between k.daylight_start k.standard_start x) (x ∷ []) [] in
    let in_standard : List ℕ = cond (j && not (daylight_between k.daylight_start k.standard_start y)) (y ∷ []) [] in
    cond (nat_lt x y) (in_daylight ++ in_standard) (cond (nat_lt y x) (in_standard ++ in_daylight) (cond i (x ∷ []) []))

-- from a to before b, those that show l
unfoldable pub candidates : YearBias → ℕ → ℕ → ℕ → List ℕ
candidates k a b l =
    let x : ℕ = plus_bias l k.daylight in
    let y : ℕ = plus_bias l k.standard in
    shown_of k x (nat_le a x && nat_lt x b) y (nat_le a y && nat_lt y b)

-- those of a year of the window
unfoldable pub year_candidates : Option Rule → ℕ → ℕ → List ℕ
year_candidates None y l = []
year_candidates (Some r) y l = cond (within 1602 30827 y) (candidates (year_bias y r) (year_tick y) (year_tick (y + 1)) l) []

-- those of the UTC years of a day before l and of a day after it
unfoldable pub shown_candidates : Option Rule → Option Rule → ℕ → List ℕ
shown_candidates o p l =
    cond (year_of (l - day) == year_of (l + day))
    (year_candidates o (year_of (l - day)) l)
    (year_candidates o (year_of (l - day)) l ++ year_candidates p (year_of (l + day)) l)
