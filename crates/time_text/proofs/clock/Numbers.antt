-- The numbers in a clock text. Their bounds hold whatever the bytes are.
use Prim.Native.Nat.{ℕ, ◌+◌, ◌-◌, ◌*◌, ◌^◌, ◌<◌, ◌≤◌}
use mathlib.Core.Path.{◌≡◌, refl, sym, ap, ◌∙◌}
use mathlib.Core.List.{List, foldl-append}
use native.Mathlib.Omega.{arith}
use native.Mathlib.Numerals.{add-one}
use native.Mathlib.Nat.{pow-suc, pow-le-pow_right, mul_assoc, mul-le-mul_right}
use Rattle.std.proofs.lemmas.Nat.{pow-add}
use lib.Dec.{lit<}
use lib.IntN.{ℤ, pos}
use lib.ListN.{length, get_or, take, drop, length-drop}
use Rattle.std.proofs.Common.{length-take-le}
use lib.Seq.{take-suc, take_all}
use mir.Syntax.{w16}
use mir.Val.{to_z, of_z}
use Rattle.calendar.proofs.signed.Signs.{back}
use Rattle.time_text.specs.Decimal.{digit_of, value_of}
use Rattle.time_text.specs.Clock.{number_at}

-- one digit more is ten times the room
ten : (i : ℕ) → 10 ^ (i + 1) ≡ 10 ^ i * 10
ten i = rw add-one (pow-suc 10 i)

room : (i : ℕ) → i < 7 → 10 ^ i ≤ 1000000
room i h = pow-le-pow_right {n = 10} (lit< tt) {i = i} {j = 6} (omega arith)

-- ---- digits, from the left
pub record Read (s : List ℕ) (value i : ℕ) : Type 0 where
  pub read : value ≡ value_of (take i s)
  pub small : value + 23 ≤ 23 * 10 ^ i

module _ {s : List ℕ} where
  pub begins : Read s 0 0
  unfolding value_of
  begins = record { read = refl; small = omega arith }

  pub fits : {value i : ℕ} → Read s value i → i < 7 → value ≤ 22999977
  fits {value} {i} r h = omega (arith, r.small, room i h)

  pub next : {value i d : ℕ} → Read s value i → i < length s → d ≡ digit_of (get_or s i 0) → d ≤ 207 → Read s (value * 10 + d) (i + 1)
  unfolding value_of
  next {value} {i} {d} r h e l =
      record {
        read = rw (add-one, take-suc s i 0 h, foldl-append, ← r.read, ← e);
        small = omega (arith, r.small, ten i);
      }

-- ---- some digits at a place
pub part-length : (s : List ℕ) (at n : ℕ) → at + n ≤ length s → length (take (at + n - at) (drop at s)) ≡ n
part-length s at n h = let e : at + n - at ≡ n = omega arith in rw (e, length-take-le n (drop at s) (rw length-drop (omega arith)))

pub whole : (s : List ℕ) (at n : ℕ) {value i : ℕ} → at + n ≤ length s → Read (take (at + n - at) (drop at s)) value i → i ≡ n → (value ≡ number_at s at n) × (value + 23 ≤ 23 * 10 ^ n)
unfolding number_at
whole s at n {value} {i} h r k =
    let e : at + n - at ≡ n = omega arith in
    let l : length (take n (drop at s)) ≡ n = rw e at (part-length s at n h) in
    (r.read ∙ ap value_of (rw (k, e) (take_all n (take n (drop at s)) (omega arith))), rw k at r.small)

-- two digits are small enough for an i16, and come back from it
pub two : (z : ℤ) (n m : ℕ) → z ≡ pos n → (n ≡ m) × (n + 23 ≤ 2300) → to_z w16 (of_z w16 z) ≡ pos m
two z n m e b = back z n e (omega arith) ∙ ap pos b.0

-- ---- a fraction of so many digits, as one of seven
pub scaled : (fraction digits : ℕ) → digits ≤ 7 → fraction + 23 ≤ 23 * 10 ^ digits → fraction * 10 ^ (7 - digits) ≤ 230000000
scaled fraction digits m h =
    let l : fraction * 10 ^ (7 - digits) ≤ 23 * 10 ^ digits * 10 ^ (7 - digits) = mul-le-mul_right (10 ^ (7 - digits)) (omega arith) in
    let e : 23 * 10 ^ digits * 10 ^ (7 - digits) ≡ 23 * (10 ^ digits * 10 ^ (7 - digits)) = mul_assoc 23 (10 ^ digits) (10 ^ (7 - digits)) in
    let d : digits + (7 - digits) ≡ 7 = omega arith in
    let f : 10 ^ digits * 10 ^ (7 - digits) ≡ 10 ^ 7 = sym (pow-add 10 digits (7 - digits)) ∙ ap (λ (n : ℕ). 10 ^ n) d in
    omega (arith, rw f at e)
