-- A number is within a range, or below it, or above it.
use Prim.Native.Nat.{ℕ, suc, ◌≤◌, ◌<◌}
use mathlib.Core.Path.{◌≡◌, sym}
use mathlib.Core.Bool.{true, false}
use native.Mathlib.Omega.{arith}
use lib.Dec.{leb}
use borrow.Author.Tests.{le-leb, lt-leb, leb-true}
use Rattle.refusal.proofs.Tests.{and-false, both}
use Rattle.calendar.specs.Ranges.{within}

-- a `match` tests `n < hi + 1`
pub is_within : (lo hi n : ℕ) → lo ≤ n → n < suc hi → true ≡ within lo hi n
is_within lo hi n p q = rw (le-leb lo n p, le-leb n hi (omega arith))

pub is_below : (lo hi n : ℕ) → n < lo → false ≡ within lo hi n
is_below lo hi n p = rw (lt-leb lo n p)

pub is-above : (lo hi n : ℕ) → hi < n → false ≡ within lo hi n
is-above lo hi n p = rw (lt-leb n hi p) (sym (and-false (leb lo n)))

-- from lo on, only the upper end is left to test
pub from_low : (lo hi n : ℕ) → lo ≤ n → leb n hi ≡ within lo hi n
from_low lo hi n p = rw (le-leb lo n p)

-- what a test that holds says
pub within-is : (lo hi n : ℕ) → within lo hi n ≡ true → (lo ≤ n) × (n ≤ hi)
within-is lo hi n e = let h = both (leb lo n) (leb n hi) e in (leb-true lo n h.0, leb-true n hi h.1)
