-- A number read digit by digit, from the left: what is left of the text decides.
use Prim.Native.Nat.{ℕ, suc, ◌+◌, ◌<◌, ◌≤◌}
use mathlib.Core.Path.{◌≡◌, refl, sym, ◌∙◌}
use mathlib.Core.Bool.{Bool, true, false, cond, ◌&&◌}
use mathlib.Core.List.{List, [], ◌∷◌, foldl}
use native.Mathlib.Omega.{arith}
use native.Mathlib.Numerals.{add-one}
use lib.Dec.{leb}
use lib.ListN.{length, get_or, drop}
use lib.Seq.{drop-cons, drop-length}
use borrow.Author.Tests.{le-leb, lt-leb, leb-true, leb-false}
use Rattle.std.specs.Prelude.{Option, Some, None}
use Rattle.refusal.proofs.Tests.{and-false}
use Rattle.time_text.specs.Decimal.{is_digit, all_digits, with_digit, value_of, decimal_of}
use Rattle.time_text.specs.Steps.{up_to, next_value}

-- the decimal of a text that goes on after the number n
unfoldable pub decimal_from : ℕ → List ℕ → ℕ → Option ℕ
decimal_from n s most = cond (all_digits s && leb (foldl with_digit n s) most) (Some (foldl with_digit n s)) None

-- more digits never make a number less
grows : (s : List ℕ) (n : ℕ) → n ≤ foldl with_digit n s
grows [] n = omega arith
grows (b ∷ s) n = omega (arith, grows s (with_digit n b))

pub above : (most n : ℕ) → most < n → None ≡ up_to most n
unfolding up_to
above most n h = rw (lt-leb n most h)

pub at_most : (most n : ℕ) → n ≤ most → Some n ≡ up_to most n
unfolding up_to
at_most most n h = rw (le-leb n most h)

-- ---- one byte on
module _ (most n b : ℕ) (s : List ℕ) where
  pub stops : next_value most n b ≡ None → decimal_from n (b ∷ s) most ≡ None
  unfolding next_value up_to decimal_from all_digits
  stops = by (is_digit b) (leb (with_digit n b) most) refl
    where
      by : (d l : Bool) → leb (with_digit n b) most ≡ l → cond d (cond l (Some (with_digit n b)) None) None ≡ None
          → cond (d && all_digits s && leb (foldl with_digit (with_digit n b) s) most) (Some (foldl with_digit (with_digit n b) s)) None ≡ None
      by false l q e = refl
      by true true q e = cc
      by true false q e =
          let a : most < with_digit n b = leb-false (with_digit n b) most q in
          rw (lt-leb (foldl with_digit (with_digit n b) s) most (omega (arith, grows s (with_digit n b))), and-false)

  pub goes_on : (v : ℕ) → next_value most n b ≡ Some v → (decimal_from n (b ∷ s) most ≡ decimal_from v s most) × (v ≤ most)
  unfolding next_value up_to decimal_from all_digits
  goes_on v = by (is_digit b) (leb (with_digit n b) most) refl
    where
      by : (d l : Bool) → leb (with_digit n b) most ≡ l → cond d (cond l (Some (with_digit n b)) None) None ≡ Some v
          → (cond (d && all_digits s && leb (foldl with_digit (with_digit n b) s) most) (Some (foldl with_digit (with_digit n b) s)) None ≡ decimal_from v s most) × (v ≤ most)
      by false l q e = let z : ◌≡◌ {A = ℕ} 0 1 = cc in absurd (omega arith)
      by true false q e = let z : ◌≡◌ {A = ℕ} 0 1 = cc in absurd (omega arith)
      by true true q e = let w : with_digit n b ≡ v = cc in (rw w, rw w at (leb-true (with_digit n b) most q))

-- ---- the loop: the number of the first i bytes, and what it leaves to the rest
pub record Reading (s : List ℕ) (most value i : ℕ) : Type 0 where
  pub within : i ≤ length s
  pub small : value ≤ most
  pub rest : decimal_of s most ≡ decimal_from value (drop i s) most

module _ (s : List ℕ) (most : ℕ) where
  pub none : length s ≡ 0 → None ≡ decimal_of s most
  unfolding decimal_of
  none e = rw e

  pub begins : (length s ≡ 0 → ⊥) → Reading s most 0 0
  unfolding decimal_of decimal_from value_of
  begins h =
      record { within = omega arith; small = omega arith; rest = rw (le-leb 1 (length s) (omega arith)) }

module _ {s : List ℕ} {most : ℕ} where
  pub next : {value i v : ℕ} → Reading s most value i → i < length s → next_value most value (get_or s i 0) ≡ Some v → Reading s most v (i + 1)
  next {value} {i} {v} h p e =
      let g = goes_on most value (get_or s i 0) (drop (suc i) s) v e in
      record { within = omega arith; small = g.1; rest = rw (add-one) (h.rest ∙ rw (drop-cons s i 0 p) g.0) }

  pub stopped : {value i : ℕ} → Reading s most value i → i < length s → next_value most value (get_or s i 0) ≡ None → None ≡ decimal_of s most
  stopped {value} {i} h p e = sym (h.rest ∙ rw (drop-cons s i 0 p) (stops most value (get_or s i 0) (drop (suc i) s) e))

  pub ends : {value i : ℕ} → Reading s most value i → length s ≤ i → Some value ≡ decimal_of s most
  unfolding decimal_from all_digits
  ends {value} {i} h p =
      let e : i ≡ length s = omega arith in
      sym (h.rest ∙ rw (e, drop-length, le-leb value most h.small))

-- a decimal is at most its limit
pub decimal-most : (s : List ℕ) (most n : ℕ) → decimal_of s most ≡ Some n → n ≤ most
unfolding decimal_of
decimal-most s most n = by (leb 1 (length s) && all_digits s) (leb (value_of s) most) refl
  where
    by : (t l : Bool) → leb (value_of s) most ≡ l → cond (t && l) (Some (value_of s)) None ≡ Some n → n ≤ most
    by true true q e = let w : value_of s ≡ n = cc in rw w at (leb-true (value_of s) most q)
    by true false q e = let z : ◌≡◌ {A = ℕ} 0 1 = cc in absurd (omega arith)
    by false l q e = let z : ◌≡◌ {A = ℕ} 0 1 = cc in absurd (omega arith)
