-- A list whose first n places are made from a state that steps on, the later ones as they were. Assumes nothing.
use Rattle.std.specs.Prelude.{ℕ, zero, suc, List, [], ◌∷◌, ◌++◌, drop}

-- the list of f at 0, 1 .. n - 1
abbrev pub filled : {A : Type 0} → (ℕ → A) → ℕ → List A
filled f zero = []
filled f (suc n) = filled f n ++ (f n ∷ [])

-- the state after n steps
abbrev pub times : {A : Type 0} → (A → A) → ℕ → A → A
times f zero s = s
times f (suc n) s = f (times f n s)

abbrev pub loaded : {A S : Type 0} → (S → A) → (S → S) → ℕ → S → List A → List A
loaded make next n s ys = filled (λ i. make (times next i s)) n ++ drop n ys
