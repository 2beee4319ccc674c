-- The bytes in front that pass a test, and the rest behind them, by how many they are.
use Prim.Native.Nat.{ℕ, ◌+◌}
use mathlib.Core.Path.{◌≡◌, refl}
use mathlib.Core.Bool.{Bool, true, false, cond}
use mathlib.Core.List.{List, [], ◌∷◌}
use native.Mathlib.Numerals.{one-add}
use lib.ListN.{take, drop}
use Rattle.std.specs.List.{prefix_len}
use Rattle.log_lines.specs.Lines.{take_while, drop_while}

pub taken : (p : ℕ → Bool) (s : List ℕ) → take (prefix_len p s) s ≡ take_while p s
unfolding take_while
taken p [] = refl
taken p (b ∷ s) = by (p b) (taken p s)
  where
    by : (t : Bool) → take (prefix_len p s) s ≡ take_while p s → take (cond t (1 + prefix_len p s) 0) (b ∷ s) ≡ cond t (b ∷ take_while p s) []
    by true e = rw (one-add, e)
    by false e = refl

pub dropped : (p : ℕ → Bool) (s : List ℕ) → drop (prefix_len p s) s ≡ drop_while p s
unfolding drop_while
dropped p [] = refl
dropped p (b ∷ s) = by (p b) (dropped p s)
  where
    by : (t : Bool) → drop (prefix_len p s) s ≡ drop_while p s → drop (cond t (1 + prefix_len p s) 0) (b ∷ s) ≡ cond t (drop_while p s) (b ∷ s)
    by true e = rw (one-add, e)
    by false e = refl
