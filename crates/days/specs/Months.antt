-- Months of the Gregorian calendar, counted from 1.
use Rattle.std.specs.Prelude.{ℕ, zero, suc, ◌+◌, cond, ◌||◌, eqb}
use Rattle.days.specs.Years.{leap}

-- April, June, September and November have 30 days; February has 28, or 29 in a leap year; the others have 31
unfoldable pub days_in_month : ℕ → ℕ → ℕ
days_in_month y m =
    cond (eqb m 2) (cond (leap y) 29 28)
    (cond (eqb m 4 || eqb m 6 || eqb m 9 || eqb m 11) 30 31)

-- the days of a year's first n months
unfoldable pub days_of_months : ℕ → ℕ → ℕ
days_of_months y zero = 0
days_of_months y (suc n) = days_of_months y n + days_in_month y (suc n)
