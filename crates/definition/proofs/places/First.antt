-- The first kept place: a rule of another major hands on to the next.
use Prim.Native.Nat.{ℕ, zero, suc, ◌+◌, ◌≤◌, ◌<◌}
use mathlib.Core.Path.{◌≡◌, refl, ◌∙◌, ap}
use mathlib.Core.Bool.{true, false, cond}
use mathlib.Core.List.{List}
use native.Mathlib.Omega.{arith}
use lib.ListN.{length}
use lib.Dec.{leb, eqb}
use borrow.Author.Tests.{le-leb, lt-leb}
use Rattle.little_endian.specs.Fields.{unsigned_at}
use Rattle.definition.specs.Places.{after_rule, first_of, first_kept}

-- two numbers of turns that both reach the end are the same
enough : (s : List ℕ) (f g at : ℕ) → length s ≤ f + at → length s ≤ g + at → first_of f s at ≡ first_of g s at
unfolding first_of
enough s zero zero at p q = refl
enough s zero (suc g) at p q = rw (lt-leb (at + 4) (length s) (omega arith))
enough s (suc f) zero at p q = rw (lt-leb (at + 4) (length s) (omega arith))
enough s (suc f) (suc g) at p q =
    ap (λ (n : ℕ). cond (leb (at + 4) (length s)) (cond (eqb (unsigned_at s at 1) 2) at n) at) (enough s f g (after_rule s at) (omega arith) (omega arith))

module _ (s : List ℕ) (at : ℕ) where
  one_more : first_kept s at ≡ first_of (suc (length s)) s at
  one_more = enough s (length s) (suc (length s)) at (omega arith) (omega arith)

  -- no head is left; a rule of major 2 is here; one of another major is
  pub first-end : length s < at + 4 → first_kept s at ≡ at
  unfolding first_of
  first-end h = one_more ∙ rw (lt-leb (at + 4) (length s) h)

  pub first-here : at + 4 ≤ length s → eqb (unsigned_at s at 1) 2 ≡ true → first_kept s at ≡ at
  unfolding first_of
  first-here h e = one_more ∙ rw (le-leb (at + 4) (length s) h, e)

  pub first-later : at + 4 ≤ length s → eqb (unsigned_at s at 1) 2 ≡ false → first_kept s at ≡ first_kept s (after_rule s at)
  unfolding first_of
  first-later h e = one_more ∙ rw (le-leb (at + 4) (length s) h, e)
