-- Years of the Gregorian calendar. Days are counted from 1601-01-01, which is day 0.
use Rattle.std.specs.Prelude.{ℕ, zero, suc, ◌+◌, ◌-◌, ◌%◌, Bool, true, false, cond, not, ◌&&◌, ◌||◌, ltb, eqb}
use Rattle.days.specs.declared.years.YearDay.{YearDay}

abbrev pub divides : ℕ → ℕ → Bool
divides k n = eqb (n % k) 0

-- divisible by 4 and not by 100, or divisible by 400
unfoldable pub leap : ℕ → Bool
leap y = (divides 4 y && not (divides 100 y)) || divides 400 y

unfoldable pub days_in_year : ℕ → ℕ
days_in_year y = cond (leap y) 366 365

-- the days of the n years from 1601 on
unfoldable pub days_of_years : ℕ → ℕ
days_of_years zero = 0
days_of_years (suc n) = days_of_years n + days_in_year (1601 + n)

-- the number of the day on which a year starts
abbrev pub year_start : ℕ → ℕ
year_start y = days_of_years (y - 1601)

-- a year, and a day of it: the year's first day is 0
abbrev pub day_of_year : ℕ → ℕ → YearDay
day_of_year y d = record { year = y; day = d }

-- the year and the day of it that lie d days after the start of year y, year by year, over at most `years` years
unfoldable pub year_from : ℕ → ℕ → ℕ → YearDay
year_from zero y d = day_of_year y d
year_from (suc years) y d =
    elim (ltb d (days_in_year y)) [
      | true ↦ day_of_year y d
      | false ↦ year_from years (suc y) (d - days_in_year y)
    ]

-- the year of day n, and the day of that year. There are at most n whole years in n days
abbrev pub year_day : ℕ → YearDay
year_day n = year_from n 1601 n
