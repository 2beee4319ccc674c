-- Laws of `specs/Iterated.antt`: turns that are made while a test holds. Assumes nothing.
use Prim.Native.Nat.{ℕ, zero, suc, ◌<◌, ◌≤◌}
use native.Mathlib.Nat.{le_of_lt, le_refl, le-suc, lt_of_lt_of_le, le_of_suc-le-suc, not-suc-le-zero}
use mathlib.Core.Path.{◌≡◌, refl, sym, ◌∙◌}
use mathlib.Core.Bool.{Bool, true, false, not}
use mathlib.Core.List.{List}
use lib.Dec.{T}
use Rattle.struct_slices.specs.Iterated.{iterated}
use Rattle.struct_slices.proofs.Cond.{cond-on, cond-off}

-- μ falls at each turn, and Inv stays
module _ {A B : Type 0} (go : B → Bool) (f : List A → B → B) (Inv : List A → B → Type 0) (μ : List A → B → ℕ) (falls : (ys : List A) (s : B) → Inv ys s → T (go s) → μ ys (f ys s) < μ ys s) (keeps : (ys : List A) (s : B) → Inv ys s → T (go s) → Inv ys (f ys s)) where
  -- no turn where the test fails, however many there may be
  pub idle : (ys : List A) (n : ℕ) (s : B) → T (not (go s)) → iterated go (f ys) n s ≡ s
  idle ys zero s off = refl
  idle ys (suc n) s off = cond-off (go s) (iterated go (f ys) n (f ys s)) s off

  -- one turn where it holds
  pub busy : (ys : List A) (n : ℕ) (s : B) → T (go s) → iterated go (f ys) (suc n) s ≡ iterated go (f ys) n (f ys s)
  busy ys n s on = cond-on (go s) (iterated go (f ys) n (f ys s)) s on

  split-on : {P : Type 0} (b : Bool) → (T b → P) → (T (not b) → P) → P
  split-on true on off = on tt
  split-on false on off = off tt

  -- m and n turns come to the same where neither is below the measure
  pub enough : (ys : List A) (m n : ℕ) (s : B) → Inv ys s → μ ys s ≤ m → μ ys s ≤ n → iterated go (f ys) m s ≡ iterated go (f ys) n s
  enough ys zero n s inv le le' = split-on (go s) (λ on. absurd (not-suc-le-zero (lt_of_lt_of_le (falls ys s inv on) le))) (λ off. sym (idle ys n s off))
  enough ys (suc m) zero s inv le le' = split-on (go s) (λ on. absurd (not-suc-le-zero (lt_of_lt_of_le (falls ys s inv on) le'))) (λ off. idle ys (suc m) s off)
  enough ys (suc m) (suc n) s inv le le' = split-on (go s) (λ on.
      busy ys m s on ∙ enough ys m n (f ys s) (keeps ys s inv on) (le_of_suc-le-suc (lt_of_lt_of_le (falls ys s inv on) le)) (le_of_suc-le-suc (lt_of_lt_of_le (falls ys s inv on) le')) ∙ sym (busy ys n s on))
      (λ off. idle ys (suc m) s off ∙ sym (idle ys (suc n) s off))

  -- the turns that the measure allows are all of them: where the test fails none is left, and where it holds one is made
  pub stops : (ys : List A) (s : B) → Inv ys s → T (not (go s)) → iterated go (f ys) (μ ys s) s ≡ s
  stops ys s inv off = idle ys (μ ys s) s off

  pub turned : (ys : List A) (s : B) → Inv ys s → T (go s) → iterated go (f ys) (μ ys s) s ≡ iterated go (f ys) (μ ys (f ys s)) (f ys s)
  turned ys s inv on =
      enough ys (μ ys s) (suc (μ ys s)) s inv (le_refl (μ ys s)) (le-suc (μ ys s))
      ∙ busy ys (μ ys s) s on
      ∙ enough ys (μ ys s) (μ ys (f ys s)) (f ys s) (keeps ys s inv on) (le_of_lt (falls ys s inv on)) (le_refl (μ ys (f ys s)))
