-- Two lists of bytes are the same exactly where the test says so, and `==` is that test.
use Prim.Native.Nat.{ℕ}
use mathlib.Core.Path.{◌≡◌, refl, sym, ap, ◌∙◌}
use mathlib.Core.Bool.{Bool, true, false, false≢true, cond, ◌&&◌}
use mathlib.Core.List.{List, [], ◌∷◌}
use lib.Dec.{eqb}
use lib.Pointwise.{pointwise}
use borrow.Author.Tests.{eqb-true, eq-eqb}
use Rattle.booking_job.specs.Bytes.{same_bytes}

itself : (s : List ℕ) → same_bytes s s ≡ true
unfolding same_bytes
itself [] = refl
itself (a ∷ s) = rw (eq-eqb a a refl) (itself s)

pub same-yes : (s t : List ℕ) → s ≡ t → same_bytes s t ≡ true
same-yes s t e = ap (λ (x : List ℕ). same_bytes s x) (sym e) ∙ itself s

both : (a b : ℕ) (s t : List ℕ) → a ≡ b → s ≡ t → (a ∷ s) ≡ (b ∷ t)
both a b s t e h = ap (λ (x : ℕ). x ∷ s) e ∙ ap (λ (x : List ℕ). b ∷ x) h

pub same-is : (s t : List ℕ) → same_bytes s t ≡ true → s ≡ t
unfolding same_bytes
same-is [] [] e = refl
same-is [] (b ∷ t) e = absurd (false≢true e)
same-is (a ∷ s) [] e = absurd (false≢true e)
same-is (a ∷ s) (b ∷ t) e = go (eqb a b) refl (same-is s t)
  where
    go : (x : Bool) → eqb a b ≡ x → (same_bytes s t ≡ true → s ≡ t) → (a ∷ s) ≡ (b ∷ t)
    go true p h = both a b s t (eqb-true a b p) (h (rw p at e))
    go false p h = absurd (false≢true (rw p at e))

-- where the test of the code says no
pub same-no : (s t : List ℕ) → (s ≡ t → ⊥) → same_bytes s t ≡ false
same-no s t n = go (same_bytes s t) refl
  where
    go : (x : Bool) → same_bytes s t ≡ x → same_bytes s t ≡ false
    go true p = absurd (n (same-is s t p))
    go false p = p

-- the test of two slices in the code
pub same_slices : (s t : List ℕ) → pointwise eqb s t ≡ same_bytes s t
unfolding same_bytes
same_slices [] [] = refl
same_slices [] (b ∷ t) = refl
same_slices (a ∷ s) [] = refl
same_slices (a ∷ s) (b ∷ t) = go (eqb a b) (same_slices s t)
  where
    go : (x : Bool) → pointwise eqb s t ≡ same_bytes s t → (x && pointwise eqb s t) ≡ cond x (same_bytes s t) false
    go true h = h
    go false h = refl
