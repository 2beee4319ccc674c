-- What is left of an output to which a list is put, element by element, with a state that steps on. Assumes nothing.
use Rattle.std.specs.Prelude.{List, [], ◌∷◌}

abbrev pub written : {A S O : Type 0} → (O → S → A → O) → (S → A → S) → O → S → List A → O
written put next o s [] = o
written put next o s (x ∷ xs) = written put next (put o s x) (next s x) xs
