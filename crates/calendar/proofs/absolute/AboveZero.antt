-- The code's comparisons of signed numbers are the definition's.
use Prim.Native.Nat.{ℕ, zero, suc}
use mathlib.Core.Path.{◌≡◌, refl, sym}
use mathlib.Core.Bool.{true, false}
use native.Mathlib.Omega.{arith}
use lib.IntN.{ℤ, pos, negsuc}
use lib.Dec.{eqb}
use lib.Signed.{lt_z, le_z}
use borrow.Author.Tests.{lt-ltb, le-leb}
use Rattle.calendar.specs.Revisions.{revision10}
use Rattle.calendar.specs.Absolute.{absolute_by}

pub from_zero : (ρ : ℕ) (x : ℤ) → eqb ρ revision10 ≡ true → le_z (pos 0) x ≡ absolute_by ρ x
from_zero ρ (pos zero) e = sym e
from_zero ρ (pos (suc n)) e = le-leb 0 (suc n) (omega arith)
from_zero ρ (negsuc n) e = refl

pub above_zero : (ρ : ℕ) (x : ℤ) → eqb ρ revision10 ≡ false → lt_z (pos 0) x ≡ absolute_by ρ x
above_zero ρ (pos zero) e = sym e
above_zero ρ (pos (suc n)) e = lt-ltb 0 (suc n) (omega arith)
above_zero ρ (negsuc n) e = refl
