-- The last place in a list where a test holds, or none, and the element at a place. Assumes nothing.
use Rattle.std.specs.Prelude.{ℕ, suc, Bool, cond, List, [], ◌∷◌, get_or, Option, Some, None}

-- the place in a list, from whether the test holds at its first element and from the place in the rest
abbrev pub place_from : Bool → Option ℕ → Option ℕ
place_from t None = cond t (Some 0) None
place_from t (Some i) = Some (suc i)

abbrev pub last_place : {A : Type 0} → (A → Bool) → List A → Option ℕ
last_place p [] = None
last_place p (x ∷ xs) = place_from (p x) (last_place p xs)

-- the element at a place, where d stands past the end
abbrev pub element_at : {A : Type 0} → A → List A → Option ℕ → Option A
element_at d row None = None
element_at d row (Some i) = Some (get_or row i d)
