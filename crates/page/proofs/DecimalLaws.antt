-- A number in decimal is read back from its text, and has the fewest digits.
use Prim.Native.Nat.{ℕ, zero, suc, ◌+◌, ◌-◌, ◌*◌, ◌/◌, ◌%◌, ◌^◌, ◌<◌, ◌≤◌}
use mathlib.Core.Path.{◌≡◌, refl, ◌∙◌}
use mathlib.Core.Bool.{Bool, true, false}
use mathlib.Core.List.{List, [], ◌∷◌, ◌++◌}
use native.Mathlib.Omega.{arith}
use native.Mathlib.Nat.{pow-suc}
use lib.Dec.{ltb}
use borrow.Author.Tests.{ltb-true, ltb-false}
use Rattle.page.specs.Characters.{zero_digit}
use Rattle.page.specs.Numbers.{digits_of, places_within, places, decimal_text}
use Rattle.page.proofs.NumberLaws.{few, more, smaller, below_power}

-- the number that digits stand for, behind a number n that was read already
abbrev read_from : ℕ → List ℕ → ℕ
read_from n [] = n
read_from n (d ∷ l) = read_from (n * 10 + (d - zero_digit)) l

abbrev pub number_read : List ℕ → ℕ
number_read l = read_from 0 l

read-last : (n : ℕ) (l : List ℕ) (d : ℕ) → read_from n (l ++ (d ∷ [])) ≡ read_from n l * 10 + (d - zero_digit)
read-last n [] d = refl
read-last n (x ∷ l) d = read-last (n * 10 + (x - zero_digit)) l d

pub digits-read : (k n : ℕ) → n < 10 ^ k → number_read (digits_of k n) ≡ n
unfolding digits_of
digits-read zero n h = omega arith
digits-read (suc k) n h =
    let e = digits-read k (n / 10) (smaller k n h) in
    read-last 0 (digits_of k (n / 10)) (zero_digit + n % 10) ∙ omega (arith, e)

-- ---- enough digits
within_by : (k n : ℕ) (b : Bool) → ltb n 10 ≡ b → n / 10 < 10 ^ places_within k (n / 10) → n < 10 ^ places_within (suc k) n
within_by k n true e h = rw (few k n (ltb-true n 10 e)) (ltb-true n 10 e)
within_by k n false e h = rw (more k n (ltb-false n 10 e), pow-suc 10 (places_within k (n / 10))) (omega arith)

within : (k n : ℕ) → n < 10 ^ suc k → n < 10 ^ places_within (suc k) n
within zero n h = rw (few 0 n h) h
within (suc k) n h = within_by (suc k) n (ltb n 10) refl (within k (n / 10) (smaller (suc k) n h))

pub places-enough : (n : ℕ) → n < 10 ^ places n
unfolding places
places-enough n = within n n (below_power n)

pub decimal-read : (n : ℕ) → number_read (decimal_text n) ≡ n
unfolding decimal_text
decimal-read n = digits-read (places n) n (places-enough n)

-- ---- and no more: one digit fewer would not do
least_by : (k n : ℕ) (b : Bool) → ltb n 10 ≡ b → 1 ≤ n → (10 ≤ n → 10 ^ places_within k (n / 10) ≤ n / 10 * 10) → 10 ^ places_within (suc k) n ≤ n * 10
least_by k n true e p h = rw (few k n (ltb-true n 10 e)) (omega arith)
least_by k n false e p h = rw (more k n (ltb-false n 10 e), pow-suc 10 (places_within k (n / 10))) (omega (arith, h (ltb-false n 10 e)))

least : (k n : ℕ) → n < 10 ^ suc k → 1 ≤ n → 10 ^ places_within (suc k) n ≤ n * 10
least zero n h p = rw (few 0 n h) (omega arith)
least (suc k) n h p = least_by (suc k) n (ltb n 10) refl p (λ t. least k (n / 10) (smaller (suc k) n h) (omega arith))

pub places-least : (n : ℕ) → 1 ≤ n → 10 ^ places n ≤ n * 10
unfolding places
places-least n p = least n n (below_power n) p
