-- What a guard answers: a check makes something of a list and a value; where a test holds of that, the answer is the refusal, and else it is made of the list and the value. Assumes nothing.
use Rattle.std.specs.Prelude.{Bool, cond, List}

abbrev pub guarded : {A B C D : Type 0} → (List A → B → C) → (C → Bool) → (C → B → D) → (List A → B → D) → List A → B → D
guarded check bad refuse finish ys x = cond (bad (check ys x)) (refuse (check ys x) x) (finish ys x)

-- the same where the rest has what the check made too
abbrev pub guarded_with : {A B C D : Type 0} → (List A → B → C) → (C → Bool) → (C → B → D) → (List A → C → B → D) → List A → B → D
guarded_with check bad refuse finish ys x = cond (bad (check ys x)) (refuse (check ys x) x) (finish ys (check ys x) x)
