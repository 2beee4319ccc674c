-- The last byte of a text.
use Prim.Native.Nat.{ℕ, suc, ◌+◌, ◌-◌}
use mathlib.Core.Path.{◌≡◌, refl}
use mathlib.Core.List.{List, [], ◌∷◌}
use native.Mathlib.Omega.{arith}
use lib.Dec.{eqb}
use lib.ListN.{length, get_or, drop, drop_of_length-le}
use lib.Pointwise.{pointwise}
use lib.Seq.{drop-cons}
use Rattle.std.specs.Prelude.{nat_eq}
use Rattle.refusal.proofs.Tests.{and-true}

pub last_byte : (s : List ℕ) → pointwise nat_eq (drop (length s - 1) s) (90 ∷ []) ≡ eqb (get_or s (length s - 1) 0) 90
last_byte [] = refl
last_byte (b ∷ s) = at (b ∷ s) (length (b ∷ s) - 1) (omega arith)
  where
    at : (s : List ℕ) (n : ℕ) → length s ≡ n + 1 → pointwise nat_eq (drop n s) (90 ∷ []) ≡ eqb (get_or s n 0) 90
    at s n e = rw (drop-cons s n 0 (omega arith), drop_of_length-le s {i = suc n} (omega arith)) (and-true _)
