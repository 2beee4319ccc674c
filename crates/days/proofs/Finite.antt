-- A test that holds at each number below n, computed once, holds at each of them.
use Prim.Native.Nat.{ℕ, zero, suc, ◌<◌}
use mathlib.Core.Path.{◌≡◌, refl, sym, subst}
use mathlib.Core.Bool.{Bool, true, false, ◌&&◌}
use native.Mathlib.Omega.{arith}
use lib.Dec.{T, eqb}
use borrow.Author.Tests.{eqb-true, eqb-false}

unfoldable pub all : (ℕ → Bool) → ℕ → Bool
all p zero = true
all p (suc n) = p n && all p n

pub and_left : (a b : Bool) → T (a && b) → T a
and_left true b h = tt
and_left false b h = h

pub and_right : (a b : Bool) → T (a && b) → T b
and_right true b h = h
and_right false b h = absurd h

pub all-at : (p : ℕ → Bool) (n : ℕ) → T (all p n) → (i : ℕ) → i < n → T (p i)
unfolding all
all-at p zero t i h = absurd (omega arith)
all-at p (suc n) t i h = go (eqb i n) refl (all-at p n (and_right (p n) (all p n) t) i)
  where
    go : (b : Bool) → eqb i n ≡ b → (i < n → T (p i)) → T (p i)
    go true e f = subst (λ (k : ℕ). T (p k)) (sym (eqb-true _ _ e)) (and_left (p n) (all p n) t)
    go false e f = f (let g = eqb-false i n e in omega arith)
