-- Signed numbers that are widened and added, and the range of a bias as the code tests it.
use Prim.Native.Nat.{ℕ, suc, ◌+◌, ◌-◌, ◌≤◌}
use mathlib.Core.Path.{◌≡◌, refl, sym, ◌∙◌}
use mathlib.Core.Bool.{Bool, true, false, cond, ◌&&◌}
use native.Mathlib.Omega.{arith}
use lib.Dec.{ltb, leb, leb-suc-suc}
use lib.IntN.{ℤ, pos, negsuc, ◌+ℤ◌}
use lib.Signed.{mag, le_z}
use mir.Syntax.{w32, w64}
use mir.Val.{to_z, of_z, SFits}
use mir.ValLaws.{to_z-of_z}
use Rattle.refusal.proofs.Tests.{and-true}
use Rattle.zone.specs.Biases.{in_bias_range}

pub widen : {z : ℤ} → SFits w32 z → SFits w64 z
widen f = record { sfits = omega (arith, f.sfits) }

-- an `i32` that is held, and held again as an `i64`
pub held : (z : ℤ) → SFits w32 z → to_z w64 (of_z w64 (to_z w32 (of_z w32 z))) ≡ z
held z f = rw (to_z-of_z w32 z f) (to_z-of_z w64 z (widen f))

mag-cond : (t : Bool) (a b : ℕ) → mag (cond t (negsuc (b - suc a)) (pos (a - b))) ≤ a + b
mag-cond true a b = omega arith
mag-cond false a b = omega arith

mag-add : (x y : ℤ) → mag (x +ℤ y) ≤ mag x + mag y + 1
mag-add (pos a) (pos b) = omega arith
mag-add (pos a) (negsuc b) = omega (arith, mag-cond (ltb a (suc b)) a (suc b))
mag-add (negsuc a) (pos b) = omega (arith, mag-cond (ltb b (suc a)) b (suc a))
mag-add (negsuc a) (negsuc b) = omega arith

pub sum_fits : (x y : ℤ) → SFits w32 x → SFits w32 y → SFits w64 (x +ℤ y)
sum_fits x y f g = record { sfits = omega (arith, mag-add x y, f.sfits, g.sfits) }

-- -1,440 to 1,440, as the code tests it
pub range-tests : (x : ℤ) → in_bias_range x ≡ (le_z (negsuc 1439) x && le_z x (pos 1440))
range-tests (pos n) = refl
range-tests (negsuc n) = leb-suc-suc n 1439 ∙ sym (and-true (leb n 1439))
