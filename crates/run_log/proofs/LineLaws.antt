-- The lines of a text, one after the other.
use Prim.Native.Nat.{ℕ, suc, ◌<◌, ◌≤◌}
use native.Mathlib.Omega.{arith}
use mathlib.Core.Path.{◌≡◌, refl, ap}
use mathlib.Core.Bool.{Bool, true, false}
use mathlib.Core.List.{List, [], ◌∷◌}
use lib.ListN.{length, drop, take}
use lib.Dec.{eqb}
use Rattle.run_log.specs.Log.{first_line, with_byte, lines_of}

pub first-length : (s : List ℕ) → length (first_line s) ≤ length s
unfolding first_line
first-length [] = omega arith
first-length (b ∷ s) = go (eqb b 10) refl (first-length s)
  where
    go : (t : Bool) → eqb b 10 ≡ t → length (first_line s) ≤ length s → length (first_line (b ∷ s)) ≤ length (b ∷ s)
    go true e h = rw e (omega arith)
    go false e h = rw e (omega arith)

pub first-is : (s : List ℕ) → take (length (first_line s)) s ≡ first_line s
unfolding first_line
first-is [] = refl
first-is (b ∷ s) = go (eqb b 10) refl (first-is s)
  where
    go : (t : Bool) → eqb b 10 ≡ t → take (length (first_line s)) s ≡ first_line s → take (length (first_line (b ∷ s))) (b ∷ s) ≡ first_line (b ∷ s)
    go true e h = rw e
    go false e h = rw e (ap (λ (l : List ℕ). b ∷ l) h)

-- a text that is not empty is its first line and the rest; a byte before it belongs to that line
pub after-byte : (b : ℕ) (s : List ℕ) → with_byte b (lines_of s) ≡ (b ∷ first_line s) ∷ lines_of (drop (suc (length (first_line s))) s)
unfolding lines_of first_line
after-byte b [] = refl
after-byte b (x ∷ s) = go (eqb x 10) refl (after-byte x s)
  where
    go : (t : Bool) → eqb x 10 ≡ t → with_byte x (lines_of s) ≡ (x ∷ first_line s) ∷ lines_of (drop (suc (length (first_line s))) s) → with_byte b (lines_of (x ∷ s)) ≡ (b ∷ first_line (x ∷ s)) ∷ lines_of (drop (suc (length (first_line (x ∷ s)))) (x ∷ s))
    go true e h = rw e
    go false e h = rw (e, h)

pub first-and-rest : (s : List ℕ) → 0 < length s → lines_of s ≡ first_line s ∷ lines_of (drop (suc (length (first_line s))) s)
unfolding lines_of first_line
first-and-rest [] l = absurd (omega arith)
first-and-rest (b ∷ s) l = go (eqb b 10) refl
  where
    go : (t : Bool) → eqb b 10 ≡ t → lines_of (b ∷ s) ≡ first_line (b ∷ s) ∷ lines_of (drop (suc (length (first_line (b ∷ s)))) (b ∷ s))
    go true e = rw e
    go false e = rw e (after-byte b s)
