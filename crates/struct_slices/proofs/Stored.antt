-- Laws of `specs/Loaded.antt`: a list after a store at each of its first i places. Assumes nothing.
use Prim.Native.Nat.{ℕ, zero, suc, ◌<◌, ◌≤◌}
use native.Mathlib.Nat.{le_of_lt, le_refl}
use mathlib.Core.Path.{◌≡◌, refl, sym, ap, subst, ◌∙◌}
use mathlib.Core.List.{List, [], ◌∷◌, ◌++◌}
use lib.ListN.{length, take, drop, set, length-set, take-append-drop}
use lib.Seq.{take-suc-set, drop-set-lt}
use Rattle.struct_slices.specs.Loaded.{filled}

module _ {A : Type 0} (f : ℕ → A) (ys : List A) where
  abbrev pub stored : ℕ → List A
  stored zero = ys
  stored (suc i) = set (stored i) i (f i)

  pub stored-length : (i : ℕ) → length (stored i) ≡ length ys
  stored-length zero = refl
  stored-length (suc i) = length-set (stored i) i (f i) ∙ stored-length i

  pub stored-take : (i : ℕ) → i ≤ length ys → take i (stored i) ≡ filled f i
  stored-take zero h = refl
  stored-take (suc i) h = take-suc-set (stored i) i (f i) (subst (λ (n : ℕ). i < n) (sym (stored-length i)) h) ∙ ap (λ (l : List A). l ++ (f i ∷ [])) (stored-take i (le_of_lt h))

  -- the places from n on, of which i stores below n have changed none
  pub stored-drop : (i n : ℕ) → i ≤ n → drop n (stored i) ≡ drop n ys
  stored-drop zero n h = refl
  stored-drop (suc i) n h = drop-set-lt n (stored i) i (f i) h ∙ stored-drop i n (le_of_lt h)

  pub stored-front : (n : ℕ) → n ≤ length ys → stored n ≡ filled f n ++ drop n ys
  stored-front n h = sym (take-append-drop n (stored n)) ∙ ap (λ (l : List A). l ++ drop n (stored n)) (stored-take n h) ∙ ap (λ (l : List A). filled f n ++ l) (stored-drop n n (le_refl n))
