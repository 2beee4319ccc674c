-- The lengths of months depend on the year only by whether it is a leap year, so that a year's days can be tested by computing.
use Prim.Native.Nat.{ℕ, zero, suc, ◌+◌, ◌-◌, ◌/◌, ◌%◌, ◌≤◌}
use mathlib.Core.Path.{◌≡◌, refl, ap}
use mathlib.Core.Bool.{Bool, true, false, cond, ◌||◌}
use native.Mathlib.Omega.{arith}
use lib.Dec.{T, eqb, eqb→eq}
use borrow.Author.Tests.{ne_eqb}
use Rattle.days.specs.Years.{leap}
use Rattle.days.specs.Months.{days_in_month, days_of_months}
use Rattle.days.proofs.Finite.{all, all-at}

unfoldable pub len : Bool → ℕ → ℕ
len l m = cond (eqb m 2) (cond l 29 28) (cond (eqb m 4 || eqb m 6 || eqb m 9 || eqb m 11) 30 31)

unfoldable pub lens : Bool → ℕ → ℕ
lens l zero = 0
lens l (suc n) = lens l n + len l (suc n)

pub len_of : (y m : ℕ) → days_in_month y m ≡ len (leap y) m
unfolding days_in_month len
len_of y m = refl

pub lens-of : (y n : ℕ) → days_of_months y n ≡ lens (leap y) n
unfolding days_of_months lens days_in_month len
lens-of y zero = refl
lens-of y (suc n) = ap (λ (k : ℕ). k + days_in_month y (suc n)) (lens-of y n)

pub len-long : (l : Bool) (m : ℕ) → (28 ≤ len l m) × (len l m ≤ 31)
unfolding len
len-long l m = go (eqb m 2) l (eqb m 4 || eqb m 6 || eqb m 9 || eqb m 11)
  where
    go : (a b c : Bool) → (28 ≤ cond a (cond b 29 28) (cond c 30 31)) × (cond a (cond b 29 28) (cond c 30 31) ≤ 31)
    go true true c = omega arith
    go true false c = omega arith
    go false b true = omega arith
    go false b false = omega arith

pub month-long : (y m : ℕ) → (28 ≤ days_in_month y m) × (days_in_month y m ≤ 31)
month-long y m = rw (len_of y m) (len-long (leap y) m)

-- what February lacks of 30 days
pub lacks-two : (l : Bool) → cond l 1 2 ≤ 2
lacks-two true = omega arith
lacks-two false = omega arith

pub february : (y : ℕ) (l : Bool) → leap y ≡ l → 30 - cond l 1 2 ≡ days_in_month y 2
unfolding days_in_month
february y true e = rw e
february y false e = rw e

-- the other months by their number, tested at each
length_by_number : ℕ → Bool
length_by_number m = eqb m 0 || eqb m 2 || eqb (30 + (m + m / 8) % 2) (len true m)

by_number : T (all length_by_number 13)
unfolding all length_by_number len
by_number = tt

pub long-or-short : (y m : ℕ) → 1 ≤ m → m ≤ 12 → (m ≡ 2 → ⊥) → 30 + (m + m / 8) % 2 ≡ days_in_month y m
unfolding length_by_number len days_in_month
long-or-short y m low high h =
    rw (ne_eqb m 2 h) (eqb→eq _ _ (rw (ne_eqb m 0 (λ e. omega arith), ne_eqb m 2 h) at (all-at length_by_number 13 by_number m (omega arith))))
