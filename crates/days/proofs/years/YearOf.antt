-- The year of a day: the walk over years ends in the only year, and at the only day of it, that make up the day's number.
use Prim.Native.Nat.{ℕ, zero, suc, ◌+◌, ◌-◌, ◌*◌, ◌≤◌, ◌<◌}
use mathlib.Core.Path.{◌≡◌, refl, ap, ap₂, subst}
use mathlib.Core.Bool.{Bool, true, false}
use native.Mathlib.Omega.{arith}
use lib.Dec.{ltb}
use borrow.Author.Tests.{ltb-true, ltb-false}
use Rattle.days.specs.declared.years.YearDay.{YearDay}
use Rattle.days.specs.Years.{days_in_year, days_of_years, year_start, day_of_year, year_from, year_day}
use Rattle.days.proofs.years.Closed.{year-long, years-rise}

-- day n is this day of this year
pub record IsDay (n : ℕ) (x : YearDay) : Type 0 where
  pub from : 1601 ≤ x.year
  pub at : n ≡ year_start x.year + x.day
  pub within : x.day < days_in_year x.year

-- a year starts where the one before it ends
pub next_start : (y : ℕ) → 1601 ≤ y → year_start (suc y) ≡ year_start y + days_in_year y
unfolding days_of_years
next_start y h =
    let e : suc y - 1601 ≡ suc (y - 1601) = omega arith in
    let f : 1601 + (y - 1601) ≡ y = omega arith in
    rw (e, days_of_years, f)

-- it is so of one year and day only
pub only-day : (n : ℕ) (x z : YearDay) → IsDay n x → IsDay n z → x ≡ z
only-day n x z p q = go (ltb x.year z.year) (ltb z.year x.year) refl refl
  where
    less : (x z : YearDay) → IsDay n x → IsDay n z → x.year < z.year → ⊥
    less x z p q h =
        omega (arith, p.at, p.within, q.at, next_start x.year p.from, years-rise (suc x.year - 1601) (z.year - 1601) (omega arith))

    same : x.year ≡ z.year → x.day ≡ z.day
    same e = let f : year_start x.year ≡ year_start z.year = ap year_start e in omega (arith, p.at, q.at)

    go : (a b : Bool) → ltb x.year z.year ≡ a → ltb z.year x.year ≡ b → x ≡ z
    go true b e f = absurd (less x z p q (ltb-true _ _ e))
    go false true e f = absurd (less z x q p (ltb-true _ _ f))
    go false false e f =
        let g : x.year ≡ z.year = omega (arith, ltb-false x.year z.year e, ltb-false z.year x.year f) in
        ap₂ day_of_year g (same g)

-- the walk over years finds it
walk : (f y d : ℕ) → 1601 ≤ y → d < 365 * suc f → IsDay (year_start y + d) (year_from f y d)
unfolding year_from
walk zero y d h l = record { from = h; at = refl; within = omega (arith, year-long y) }
walk (suc f) y d h l = go (ltb d (days_in_year y)) refl (walk f (suc y) (d - days_in_year y) (omega arith))
  where
    go : (b : Bool) → ltb d (days_in_year y) ≡ b
        → (d - days_in_year y < 365 * suc f → IsDay (year_start (suc y) + (d - days_in_year y)) (year_from f (suc y) (d - days_in_year y)))
        → IsDay (year_start y + d) (year_from (suc f) y d)
    go true t w = rw (year_from, t) (record { from = h; at = refl; within = ltb-true _ _ t })
    go false t w =
        let g : days_in_year y ≤ d = ltb-false _ _ t in
        let s : year_start (suc y) + (d - days_in_year y) ≡ year_start y + d = omega (arith, next_start y h) in
        rw (year_from, t) (subst (λ (n : ℕ). IsDay n (year_from f (suc y) (d - days_in_year y))) s (w (omega (arith, year-long y))))

pub is-day : (n : ℕ) → IsDay n (year_day n)
unfolding days_of_years
is-day n = subst (λ (m : ℕ). IsDay m (year_day n)) (omega arith) (walk n 1601 n (omega arith) (omega arith))

-- the year k years after 1601, and a day of it
pub year-found : (n k r : ℕ) → n ≡ days_of_years k + r → r < days_in_year (1601 + k) → day_of_year (1601 + k) r ≡ year_day n
year-found n k r e h =
    let f : 1601 + k - 1601 ≡ k = omega arith in
    only-day n (day_of_year (1601 + k) r) (year_day n) (record { from = omega arith; at = rw f e; within = h }) (is-day n)

-- a day before the end of a year lies in that year or before it
pub year-by : (n y : ℕ) → n < year_start (suc y) → (year_day n).year ≤ y
year-by n y h = go (ltb y (year_day n).year) refl
  where
    go : (b : Bool) → ltb y (year_day n).year ≡ b → (year_day n).year ≤ y
    go true t =
        let g = ltb-true y (year_day n).year t in
        absurd (omega (arith, (is-day n).at, years-rise (suc y - 1601) ((year_day n).year - 1601) (omega arith)))
    go false t = ltb-false y (year_day n).year t
