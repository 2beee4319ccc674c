-- A fold over the first elements of a list, as a loop by an index has come to it. Assumes nothing.
use Prim.Native.Nat.{ℕ, ◌+◌, ◌<◌}
use mathlib.Core.Path.{◌≡◌, ap, ◌∙◌}
use mathlib.Core.List.{List, [], ◌∷◌, foldl, foldl-append}
use native.Mathlib.Numerals.{add-one}
use lib.ListN.{length, get_or, take}
use lib.Seq.{take-suc}

-- one more element is one more step
pub one_more : {A B : Type 0} (f : B → A → B) (s : B) (ys : List A) (i : ℕ) (d : A) → i < length ys → foldl f s (take (i + 1) ys) ≡ f (foldl f s (take i ys)) (get_or ys i d)
one_more f s ys i d l = ap (λ (n : ℕ). foldl f s (take n ys)) (add-one i) ∙ ap (foldl f s) (take-suc ys i d l) ∙ foldl-append f s (take i ys) (get_or ys i d ∷ [])
