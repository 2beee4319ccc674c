-- Laws of `specs/Places.antt`'s `last_place`. Assumes nothing.
--     Inside, last-below       a place that it finds is within the list
--     last-at, last-none       it is i where the test holds there and at no later place, and none where the test holds nowhere
--     last-here, last-next     of the first i + 1 elements it is i where the test holds there, and else that of the first i
--     IsLast, last-is          it is a place where the test holds, and after which it holds nowhere; or none, and the test holds nowhere
use mathlib.Core.Path.{◌≡◌, refl, sym, ◌∙◌, ap, subst}
use Prim.Native.Nat.{ℕ, zero, suc, ◌+◌, ◌<◌, ◌≤◌}
use native.Mathlib.Nat.{zero-lt-suc, suc-le-suc_iff, le_of_suc-le-suc, not-suc-le-zero}
use native.Mathlib.Omega.{arith}
use mathlib.Core.Bool.{Bool, true, false, not, cond}
use mathlib.Core.List.{List, [], ◌∷◌, ◌++◌}
use lib.ListN.{length, get_or, take, length-take}
use lib.Seq.{take-suc}
use lib.Dec.{T}
use Rattle.std.specs.Prelude.{Option, Some, None}
use Rattle.struct_slices.specs.Places.{place_from, last_place}
use Rattle.struct_slices.proofs.Cond.{cond-on, cond-off}

-- ---- within the list
abbrev pub Inside : ℕ → Option ℕ → Type 0
Inside n None = Unit {0}
Inside n (Some i) = i < n

inside-from : (t : Bool) (o : Option ℕ) (n : ℕ) → Inside n o → Inside (suc n) (place_from t o)
inside-from true None n h = zero-lt-suc n
inside-from false None n h = tt
inside-from t (Some i) n h = suc-le-suc_iff.1 h

module _ {A : Type 0} (p : A → Bool) where
  pub last-below : (l : List A) → Inside (length l) (last_place p l)
  last-below [] = tt
  last-below (x ∷ xs) = inside-from (p x) (last_place p xs) (length xs) (last-below xs)

  -- ---- by the element there and those after it
  pub last-none : (l : List A) (d : A) → ((k : ℕ) → k < length l → p (get_or l k d) ≡ false) → last_place p l ≡ None
  last-none [] d f = refl
  last-none (x ∷ xs) d f = rw (last-none xs d (λ k b. f (suc k) (suc-le-suc_iff.1 b)), f 0 (zero-lt-suc (length xs)))

  pub last-at : (l : List A) (i : ℕ) (d : A) → i < length l → p (get_or l i d) ≡ true → ((k : ℕ) → i + 1 ≤ k → k < length l → p (get_or l k d) ≡ false) → last_place p l ≡ Some i
  last-at [] i d h t f = absurd (not-suc-le-zero h)
  last-at (x ∷ xs) zero d h t f = rw (last-none xs d (λ k b. f (suc k) (omega arith) (suc-le-suc_iff.1 b)), t)
  last-at (x ∷ xs) (suc i) d h t f = rw (last-at xs i d (le_of_suc-le-suc h) t (λ k a b. f (suc k) (omega arith) (suc-le-suc_iff.1 b)))

-- ---- with one element more at the end
place-cond : (t s : Bool) (i : ℕ) (o : Option ℕ) → place_from s (cond t (Some i) o) ≡ cond t (Some (suc i)) (place_from s o)
place-cond true s i o = refl
place-cond false s i o = refl

module _ {A : Type 0} (p : A → Bool) where
  last_snoc : (xs : List A) (x : A) → last_place p (xs ++ (x ∷ [])) ≡ cond (p x) (Some (length xs)) (last_place p xs)
  last_snoc [] x = refl
  last_snoc (y ∷ ys) x = ap (place_from (p y)) (last_snoc ys x) ∙ place-cond (p x) (p y) (length ys) (last_place p ys)

  cut_at : (l : List A) (i : ℕ) → i < length l → length (take i l) ≡ i
  cut_at l i h = simp length-take (omega arith)

  pub last-here : (l : List A) (i : ℕ) (d : A) → i < length l → T (p (get_or l i d)) → last_place p (take (suc i) l) ≡ Some i
  last-here l i d h t = ap (last_place p) (take-suc l i d h) ∙ last_snoc (take i l) (get_or l i d) ∙ cond-on (p (get_or l i d)) (Some (length (take i l))) (last_place p (take i l)) t ∙ ap (λ (k : ℕ). Some k) (cut_at l i h)

  pub last-next : (l : List A) (i : ℕ) (d : A) → i < length l → T (not (p (get_or l i d))) → last_place p (take (suc i) l) ≡ last_place p (take i l)
  last-next l i d h t = ap (last_place p) (take-suc l i d h) ∙ last_snoc (take i l) (get_or l i d) ∙ cond-off (p (get_or l i d)) (Some (length (take i l))) (last_place p (take i l)) t

-- ---- the last
module _ {A : Type 0} (p : A → Bool) (d : A) where
  abbrev pub IsLast : List A → Option ℕ → Type 0
  IsLast l None = (j : ℕ) → j < length l → T (not (p (get_or l j d)))
  IsLast l (Some i) = (i < length l) × (T (p (get_or l i d)) × ((j : ℕ) → i < j → j < length l → T (not (p (get_or l j d)))))

  step : (x : A) (xs : List A) (t : Bool) → p x ≡ t → (o : Option ℕ) → IsLast xs o → IsLast (x ∷ xs) (place_from t o)
  step x xs t e (Some i) h = (suc-le-suc_iff.1 h.0, (h.1.0, after))
    where
      after : (j : ℕ) → suc i < j → j < suc (length xs) → T (not (p (get_or (x ∷ xs) j d)))
      after zero a b = absurd (not-suc-le-zero a)
      after (suc j) a b = h.1.1 j (le_of_suc-le-suc a) (le_of_suc-le-suc b)
  step x xs true e None h = (zero-lt-suc (length xs), (subst T (sym e) tt, after))
    where
      after : (j : ℕ) → 0 < j → j < suc (length xs) → T (not (p (get_or (x ∷ xs) j d)))
      after zero a b = absurd (not-suc-le-zero a)
      after (suc j) a b = h j (le_of_suc-le-suc b)
  step x xs false e None h = after
    where
      after : (j : ℕ) → j < suc (length xs) → T (not (p (get_or (x ∷ xs) j d)))
      after zero b = subst (λ (t : Bool). T (not t)) (sym e) tt
      after (suc j) b = h j (le_of_suc-le-suc b)

  pub last-is : (l : List A) → IsLast l (last_place p l)
  last-is [] = λ j b. absurd (not-suc-le-zero b)
  last-is (x ∷ xs) = step x xs (p x) refl (last_place p xs) (last-is xs)
