-- The calendar goes on day by day: the date of day n + 1 is the day after the date of day n.
use Prim.Native.Nat.{ℕ, suc, ◌+◌, ◌-◌, ◌≤◌, ◌<◌}
use mathlib.Core.Path.{◌≡◌, refl, sym, ap, ◌∙◌}
use mathlib.Core.Bool.{Bool, true, false, cond}
use native.Mathlib.Omega.{arith}
use lib.Dec.{ltb}
use borrow.Author.Tests.{ltb-true, ltb-false}
use Rattle.days.specs.declared.dates.Date.{Date}
use Rattle.days.specs.Years.{leap, days_in_year}
use Rattle.days.specs.Months.{days_in_month, days_of_months}
use Rattle.days.specs.Dates.{date, day_number, date_of}
use Rattle.days.proofs.years.YearOf.{next_start}
use Rattle.days.proofs.months.Lengths.{len, lens, lens-of, month-long}
use Rattle.days.proofs.dates.DateOf.{DateIs, date-is, date_of-day_number}

-- the next day of the month, else the first of the next month, else the first of the next year
unfoldable pub next_day : Date → Date
next_day x =
    cond (ltb x.day (days_in_month x.year x.month)) (date x.year x.month (suc x.day))
    (cond (ltb x.month 12) (date x.year (suc x.month) 1) (date (suc x.year) 1 1))

-- twelve months make a year
twelve-lens : (l : Bool) → lens l 12 ≡ cond l 366 365
unfolding lens len
twelve-lens true = refl
twelve-lens false = refl

twelve-months : (y : ℕ) → days_of_months y 12 ≡ days_in_year y
unfolding days_in_year
twelve-months y = lens-of y 12 ∙ twelve-lens (leap y)

month-on : (y k : ℕ) → days_of_months y (suc k) ≡ days_of_months y k + days_in_month y (suc k)
unfolding days_of_months
month-on y k = refl

one_more : (y m : ℕ) → 1 ≤ m → days_of_months y m ≡ days_of_months y (m - 1) + days_in_month y m
one_more y m h = let e : suc (m - 1) ≡ m = omega arith in rw e at (month-on y (m - 1))

no-months : (y : ℕ) → days_of_months y 0 ≡ 0
unfolding days_of_months
no-months y = refl

-- a valid date is the date of day n + 1 if that is its number
named : (n y m d : ℕ) → 1601 ≤ y → 1 ≤ m → m ≤ 12 → 1 ≤ d → d ≤ days_in_month y m → day_number y m d ≡ suc n → date y m d ≡ date_of (suc n)
named n y m d a b c e f g = sym (date_of-day_number y m d a b c e f) ∙ ap date_of g

pub next-day : (n : ℕ) → next_day (date_of n) ≡ date_of (suc n)
unfolding next_day
next-day n = go (date_of n) (date-is n) (ltb (date_of n).day (days_in_month (date_of n).year (date_of n).month)) (ltb (date_of n).month 12) refl refl
  where
    go : (x : Date) → DateIs n x → (a b : Bool) → ltb x.day (days_in_month x.year x.month) ≡ a → ltb x.month 12 ≡ b
        → cond (ltb x.day (days_in_month x.year x.month)) (date x.year x.month (suc x.day))
        (cond (ltb x.month 12) (date x.year (suc x.month) 1) (date (suc x.year) 1 1))
        ≡ date_of (suc n)
    go x h true b e f =
        let g : x.day < days_in_month x.year x.month = ltb-true _ _ e in
        rw e (named n x.year x.month (suc x.day) h.year1601 h.month1 h.month12 (omega arith) (omega arith) (omega (arith, h.number, h.day1)))
    go x h false true e f =
        let g : days_in_month x.year x.month ≤ x.day = ltb-false _ _ e in
        let k : x.month < 12 = ltb-true _ _ f in
        let l : suc x.month - 1 ≡ x.month = omega arith in
        rw (e, f)
        (named n x.year (suc x.month) 1 h.year1601 (omega arith) (omega arith) (omega arith) (omega (arith, (month-long x.year (suc x.month)).0))
        (rw l (omega (arith, h.number, h.day1, h.day_last, one_more x.year x.month h.month1))))
    go x h false false e f =
        let g : days_in_month x.year x.month ≤ x.day = ltb-false _ _ e in
        let k : 12 ≤ x.month = ltb-false _ _ f in
        let m : x.month ≡ 12 = omega (arith, h.month12) in
        let t : days_of_months x.year x.month ≡ days_in_year x.year = ap (days_of_months x.year) m ∙ twelve-months x.year in
        let z : days_of_months (suc x.year) 0 ≡ 0 = no-months (suc x.year) in
        rw (e, f)
        (named n (suc x.year) 1 1 (omega (arith, h.year1601)) (omega arith) (omega arith) (omega arith) (omega (arith, (month-long (suc x.year) 1).0))
        (omega (arith, h.number, h.day1, h.day_last, one_more x.year x.month h.month1, t, z, next_start x.year h.year1601)))
