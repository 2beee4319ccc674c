-- The days of years in closed form, and that they rise.
use Prim.Native.Nat.{ℕ, zero, suc, ◌+◌, ◌-◌, ◌*◌, ◌/◌, ◌%◌, ◌≤◌}
use mathlib.Core.Path.{◌≡◌, refl, subst}
use mathlib.Core.Bool.{Bool, true, false, cond, not, ◌&&◌, ◌||◌}
use native.Mathlib.Omega.{arith}
use native.Mathlib.Nat.{add-zero, add-suc}
use lib.Dec.{eqb}
use borrow.Author.Tests.{eqb-true, eqb-false}
use Rattle.days.specs.Years.{leap, days_in_year, days_of_years}

-- ---- the closed form
unfoldable pub closed : ℕ → ℕ
closed k = 365 * k + k / 4 - k / 100 + k / 400

-- a quotient at suc k, by whether 1601 + k is a multiple
up4 : (k : ℕ) → (1601 + k) % 4 ≡ 0 → suc k / 4 ≡ k / 4 + 1
up4 k h = omega arith

same4 : (k : ℕ) → ¬ ((1601 + k) % 4 ≡ 0) → suc k / 4 ≡ k / 4 + 0
same4 k h = omega arith

up100 : (k : ℕ) → (1601 + k) % 100 ≡ 0 → (suc k / 100 ≡ k / 100 + 1) × ((1601 + k) % 4 ≡ 0)
up100 k h = omega arith

same100 : (k : ℕ) → ¬ ((1601 + k) % 100 ≡ 0) → suc k / 100 ≡ k / 100 + 0
same100 k h = omega arith

up400 : (k : ℕ) → (1601 + k) % 400 ≡ 0 → (suc k / 400 ≡ k / 400 + 1) × ((1601 + k) % 100 ≡ 0)
up400 k h = omega arith

same400 : (k : ℕ) → ¬ ((1601 + k) % 400 ≡ 0) → suc k / 400 ≡ k / 400 + 0
same400 k h = omega arith

fewer : (k : ℕ) → k / 100 ≤ k / 4
fewer k = omega arith

-- the closed form where the three quotients grow by i, j and m
closed-by : (k a b c a' b' c' i j m l : ℕ) → b ≤ a → b' ≤ a' → a' ≡ a + i → b' ≡ b + j → c' ≡ c + m → i + m ≡ l + j → 365 + l + (365 * k + a - b + c) ≡ 365 * suc k + a' - b' + c'
closed-by k a b c a' b' c' i j m l p q ea eb ec e = omega arith

grown : (k i j m l : ℕ) → suc k / 4 ≡ k / 4 + i → suc k / 100 ≡ k / 100 + j → suc k / 400 ≡ k / 400 + m → i + m ≡ l + j → 365 + l + closed k ≡ closed (suc k)
unfolding closed
grown k i j m l ea eb ec e =
    closed-by k (k / 4) (k / 100) (k / 400) (suc k / 4) (suc k / 100) (suc k / 400) i j m l (fewer k) (fewer (suc k)) ea eb ec e

year-at : (k : ℕ) (c b a : Bool) → eqb ((1601 + k) % 4) 0 ≡ c → eqb ((1601 + k) % 100) 0 ≡ b → eqb ((1601 + k) % 400) 0 ≡ a
    → cond ((c && not b) || a) 366 365 + closed k ≡ closed (suc k)
year-at k true true true r q p = grown k 1 1 1 1 (up4 k (eqb-true _ _ r)) (up100 k (eqb-true _ _ q)).0 (up400 k (eqb-true _ _ p)).0 refl
year-at k true true false r q p = grown k 1 1 0 0 (up4 k (eqb-true _ _ r)) (up100 k (eqb-true _ _ q)).0 (same400 k (eqb-false _ _ p)) refl
year-at k true false false r q p = grown k 1 0 0 1 (up4 k (eqb-true _ _ r)) (same100 k (eqb-false _ _ q)) (same400 k (eqb-false _ _ p)) refl
year-at k false false false r q p = grown k 0 0 0 0 (same4 k (eqb-false _ _ r)) (same100 k (eqb-false _ _ q)) (same400 k (eqb-false _ _ p)) refl
year-at k true false true r q p = absurd (eqb-false _ _ q (up400 k (eqb-true _ _ p)).1)
year-at k false true a r q p = absurd (eqb-false _ _ r (up100 k (eqb-true _ _ q)).1)
year-at k false false true r q p = absurd (eqb-false _ _ q (up400 k (eqb-true _ _ p)).1)

pub closed-suc : (k : ℕ) → days_in_year (1601 + k) + closed k ≡ closed (suc k)
unfolding days_in_year leap
closed-suc k = year-at k _ _ _ refl refl refl

pub years-closed : (k : ℕ) → days_of_years k ≡ closed k
unfolding days_of_years
years-closed zero = unfold closed in refl
years-closed (suc k) = omega (arith, years-closed k, closed-suc k)

-- ---- a year is 365 days long, or 366
pub year-long : (y : ℕ) → (365 ≤ days_in_year y) × (days_in_year y ≤ 366)
unfolding days_in_year
year-long y = go (leap y)
  where
    go : (l : Bool) → (365 ≤ cond l 366 365) × (cond l 366 365 ≤ 366)
    go true = omega arith
    go false = omega arith

years-from : (k j : ℕ) → days_of_years k ≤ days_of_years (k + j)
unfolding days_of_years
years-from k zero = rw add-zero (omega arith)
years-from k (suc j) = rw add-suc (omega (arith, years-from k j))

pub years-rise : (k m : ℕ) → k ≤ m → days_of_years k ≤ days_of_years m
years-rise k m h = let e : k + (m - k) ≡ m = omega arith in subst (λ (n : ℕ). days_of_years k ≤ days_of_years n) e (years-from k (m - k))
