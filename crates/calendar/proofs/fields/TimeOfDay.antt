-- The time of day by the milliseconds of the day is the time of day by ticks; and the fields of a TIME are small.
use Prim.Native.Nat.{ℕ, ◌-◌, ◌*◌, ◌/◌, ◌%◌, ◌≤◌, ◌<◌}
use mathlib.Core.Path.{◌≡◌}
use native.Mathlib.Omega.{arith}
use Rattle.days.specs.Years.{year_start}
use Rattle.days.specs.Dates.{date_of}
use Rattle.days.specs.Ticks.{millisecond, second, minute, hour, day}
use Rattle.days.proofs.years.Closed.{closed, years-closed}
use Rattle.days.proofs.years.YearOf.{year-by}
use Rattle.days.proofs.months.Lengths.{month-long}
use Rattle.days.proofs.dates.DateOf.{date-is, date-year}

-- m is the millisecond of the day at tick t
module _ (t m : ℕ) (e : m ≡ t % day / millisecond) where
  pub hour-of : m / 3600000 ≡ t / hour % 24
  hour-of = omega arith

  pub minute-of : m / 60000 - 60 * (m / 3600000) ≡ t / minute % 60
  minute-of = omega arith

  pub second-of : m / 1000 - 60 * (m / 60000) ≡ t / second % 60
  second-of = omega arith

  pub millisecond-of : m - 1000 * (m / 1000) ≡ t / millisecond % 1000
  millisecond-of = omega arith

-- the first day of 30829 lies after the last TIME
days-30829 : year_start 30829 ≡ 10675308
unfolding closed
days-30829 = years-closed 29228

pub year-small : (n : ℕ) → n < 10675308 → (date_of n).year ≤ 30828
year-small n h = rw (date-year n) (year-by n 30828 (omega (arith, days-30829)))

pub month-small : (n : ℕ) → (date_of n).month ≤ 12
month-small n = (date-is n).month12

pub day-small : (n : ℕ) → (date_of n).day ≤ 31
day-small n = omega (arith, (date-is n).day_last, (month-long (date_of n).year (date_of n).month).1)
