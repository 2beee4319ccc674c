-- Dates and the numbers of their days. Day 0 is 1601-01-01, a Monday; days of a month count from 1, and Sunday is weekday 0.
use Rattle.std.specs.Prelude.{ℕ, zero, suc, ◌+◌, ◌-◌, ◌%◌, true, false, ltb}
use Rattle.days.specs.declared.dates.Date.{Date}
use Rattle.days.specs.declared.years.YearDay.{YearDay}
use Rattle.days.specs.Years.{year_start, year_day}
use Rattle.days.specs.Months.{days_in_month, days_of_months}

abbrev pub date : ℕ → ℕ → ℕ → Date
date y m d = record { year = y; month = m; day = d }

-- the number of a day: the whole years, the whole months and the days before it
abbrev pub day_number : ℕ → ℕ → ℕ → ℕ
day_number y m d = year_start y + days_of_months y (m - 1) + (d - 1)

abbrev pub weekday : ℕ → ℕ
weekday n = (n + 1) % 7

-- the date d days after the start of month m of year y, month by month; `left` months follow m in that year
unfoldable pub date_from : ℕ → ℕ → ℕ → ℕ → Date
date_from zero y m d = date y m (d + 1)
date_from (suc left) y m d =
    elim (ltb d (days_in_month y m)) [
      | true ↦ date y m (d + 1)
      | false ↦ date_from left y (suc m) (d - days_in_month y m)
    ]

-- the date of a day of a year
abbrev pub date_in_year : YearDay → Date
date_in_year x = date_from 11 x.year 1 x.day

-- the date of day n
abbrev pub date_of : ℕ → Date
date_of n = date_in_year (year_day n)
