-- What a state is after n turns at most, made while a test holds. Where a number falls at each turn, that number of turns is enough. Assumes nothing.
use Rattle.std.specs.Prelude.{ℕ, zero, suc, Bool, cond}

abbrev pub iterated : {A : Type 0} → (A → Bool) → (A → A) → ℕ → A → A
iterated go turn zero s = s
iterated go turn (suc n) s = cond (go s) (iterated go turn n (turn s)) s
