-- How many digits a number has, and its digits one by one from the last.
use Prim.Native.Nat.{ℕ, zero, suc, ◌+◌, ◌-◌, ◌/◌, ◌%◌, ◌^◌, ◌<◌, ◌≤◌}
use mathlib.Core.Path.{◌≡◌, refl, sym, ap, ◌∙◌}
use mathlib.Core.Bool.{Bool, true, false}
use mathlib.Core.List.{List, [], ◌∷◌, ◌++◌, append-nil}
use native.Mathlib.Omega.{arith}
use native.Mathlib.Nat.{pow-suc}
use lib.Dec.{ltb}
use lib.ListN.{length, take, drop, set, length-set, drop_of_length-le}
use lib.Seq.{length-take-le, drop-cons, take-set-lt, drop-set-lt, get_or-set_same, append_snoc}
use borrow.Author.Tests.{lt-ltb, le-ltb, ltb-true, ltb-false}
use Rattle.page.specs.Characters.{zero_digit}
use Rattle.page.specs.Numbers.{digits_of, places_within, places}

-- ---- places
pub few : (k n : ℕ) → n < 10 → places_within (suc k) n ≡ 1
unfolding places_within
few k n h = rw (lt-ltb n 10 h, places_within)

pub more : (k n : ℕ) → 10 ≤ n → places_within (suc k) n ≡ suc (places_within k (n / 10))
unfolding places_within
more k n h = rw (le-ltb n 10 h, places_within)

pub smaller : (k n : ℕ) → n < 10 ^ suc k → n / 10 < 10 ^ k
smaller k n h = omega (arith, pow-suc 10 k)

-- any count that is enough counts the same
enough-by : (k j n : ℕ) (b : Bool) → ltb n 10 ≡ b → places_within k (n / 10) ≡ places_within j (n / 10) → places_within (suc k) n ≡ places_within (suc j) n
enough-by k j n true e h = few k n (ltb-true n 10 e) ∙ sym (few j n (ltb-true n 10 e))
enough-by k j n false e h = more k n (ltb-false n 10 e) ∙ ap suc h ∙ sym (more j n (ltb-false n 10 e))

enough : (k j n : ℕ) → n < 10 ^ suc k → n < 10 ^ suc j → places_within (suc k) n ≡ places_within (suc j) n
enough zero j n p q = few zero n p ∙ sym (few j n p)
enough (suc k) zero n p q = few (suc k) n q ∙ sym (few zero n q)
enough (suc k) (suc j) n p q = enough-by (suc k) (suc j) n (ltb n 10) refl (enough k j (n / 10) (smaller (suc k) n p) (smaller (suc j) n q))

pub below_power : (n : ℕ) → n < 10 ^ suc n
below_power zero = omega arith
below_power (suc n) = omega (arith, below_power n, pow-suc 10 (suc n))

-- 20 are enough for a u64
pub places_is : (n : ℕ) → n < 10 ^ 20 → places n ≡ places_within 20 n
unfolding places
places_is n h = enough n 19 n (below_power n) h

-- the count so far, what is left of n to count, and how many digits it may still have but one
pub record Counting (n count rest left : ℕ) : Type 0 where
  pub most : count + left ≡ 20
  pub fits : rest < 10 ^ suc left
  pub counted : count + places_within (suc left) rest ≡ 1 + places_within 20 n

module _ {n : ℕ} where
  pub counting-begins : n < 10 ^ 20 → Counting n 1 n 19
  counting-begins h = record { most = refl; fits = h; counted = refl }

  pub counting-on : {count rest : ℕ} (left : ℕ) → Counting n count rest left → 10 ≤ rest → Counting n (count + 1) (rest / 10) (left - 1)
  counting-on zero c h = absurd (omega (arith, c.fits))
  counting-on {count} {rest} (suc left) c h =
      let e : suc left - 1 ≡ left = omega arith in
      rw e (record { most = omega (arith, c.most); fits = smaller (suc left) rest c.fits; counted = omega (arith, c.counted, more (suc left) rest h) })

  pub counting-ends : {count rest left : ℕ} → Counting n count rest left → rest < 10 → count ≡ places_within 20 n
  counting-ends {count} {rest} {left} c h = omega (arith, c.counted, few left rest h)

-- ---- digits
-- the last digits of n are in s from i on, and those of rest are to come before them
pub record Spelling (n width : ℕ) (s : List ℕ) (rest i : ℕ) : Type 0 where
  pub within : i ≤ width
  pub size : length s ≡ 20
  pub spelt : digits_of i rest ++ drop i (take width s) ≡ digits_of width n

module _ {n width : ℕ} where
  pub spelling-begins : width ≤ 20 → (s : List ℕ) → length s ≡ 20 → Spelling n width s n width
  spelling-begins h s l =
      let none : drop width (take width s) ≡ [] = drop_of_length-le (take width s) {i = width} (omega (arith, length-take-le width s (omega arith))) in
      record { within = omega arith; size = l; spelt = rw none (append-nil (digits_of width n)) }

  pub spelling-next : width ≤ 20 → {s : List ℕ} {rest : ℕ} (i : ℕ) → Spelling n width s rest i → 0 < i
      → Spelling n width (set s (i - 1) (zero_digit + rest % 10)) (rest / 10) (i - 1)
  unfolding digits_of
  spelling-next h zero t p = absurd (omega arith)
  spelling-next h {s} {rest} (suc i) t p =
      let e : suc i - 1 ≡ i = omega arith in
      let d = zero_digit + rest % 10 in
      let w = t.within in
      let l : length (take width s) ≡ width = length-take-le width s (omega (arith, t.size)) in
      let put : drop i (take width (set s i d)) ≡ d ∷ drop (suc i) (take width s) =
      ap (drop i) (take-set-lt width s i d w)
      ∙ drop-cons (set (take width s) i d) i 0 (omega (arith, l, length-set (take width s) i d))
      ∙ rw (get_or-set_same (take width s) i d 0 (omega (arith, l)), drop-set-lt (suc i) (take width s) i d (omega arith))
      in
      rw e (record {
        within = omega arith;
        size = length-set s i d ∙ t.size;
        spelt = ap (λ (r : List ℕ). digits_of i (rest / 10) ++ r) put ∙ sym (append_snoc (digits_of i (rest / 10)) d (drop (suc i) (take width s))) ∙ t.spelt;
      })

  pub spelling-ends : {s : List ℕ} {rest i : ℕ} → Spelling n width s rest i → i ≡ 0 → take width s ≡ digits_of width n
  unfolding digits_of
  spelling-ends t e = rw e at t.spelt
