-- How the code finds a year and a month. No public contract rests on these: laws show that they find the calendar's.
use Rattle.std.specs.Prelude.{ℕ, min, ◌+◌, ◌-◌, ◌*◌, ◌/◌, ◌%◌, Bool, cond, ltb}
use Rattle.days.specs.declared.months.MonthDay.{MonthDay}
use Rattle.days.specs.declared.years.YearBlocks.{YearBlocks}
use Rattle.days.specs.declared.years.YearDay.{YearDay}
use Rattle.days.specs.Years.{days_of_years, day_of_year}

-- The whole blocks of 400, 100, 4 and 1 years from 1601 that lie before day n, taken in that order, and the days left.
-- The last day of 400 years stays in their fourth century, and the last day of a leap year in the fourth of its four years.
unfoldable pub blocks_of : ℕ → YearBlocks
blocks_of n =
    let in400 : ℕ = n % days_of_years 400 in
    let by100 : ℕ = min (in400 / days_of_years 100) 3 in
    let in100 : ℕ = in400 - by100 * days_of_years 100 in
    let in4 : ℕ = in100 % days_of_years 4 in
    let by1 : ℕ = min (in4 / days_of_years 1) 3 in
    record { by_400 = n / days_of_years 400; by_100 = by100; by_4 = in100 / days_of_years 4; by_1 = by1; rest = in4 - by1 * days_of_years 1 }

-- the year that follows these blocks, and the day of it
abbrev pub after_blocks : YearBlocks → YearDay
after_blocks k = day_of_year (1601 + (400 * k.by_400 + 100 * k.by_100 + 4 * k.by_4 + k.by_1)) k.rest

-- the days that February lacks of 30, once it is past
unfoldable pub lacking : Bool → ℕ → ℕ
lacking l r = cond l (cond (ltb r 60) 0 1) (cond (ltb r 59) 0 2)

-- the month and the day of the month of day r of a year: with a February of 30 days the months' starts lie on a line
abbrev on_line : ℕ → MonthDay
on_line n = record { month = n / 367; day = n % 367 / 12 + 1 }

unfoldable pub month_day : Bool → ℕ → MonthDay
month_day l r = on_line (12 * (r + lacking l r) + 373)
