-- What a test `x < 0` says of a signed x, over the width, and that an x that is not below 0 may be cast to an unsigned type.
-- A signed local holds bits, so a need speaks of `to_z w (of_z w x)`, which is x.
use Prim.Native.Nat.{ℕ, ◌<◌, ◌≤◌, ◌^◌}
use mathlib.Core.Path.{◌≡◌, refl, sym, ap, subst, ◌∙◌}
use mathlib.Core.Bool.{true, false}
use native.Mathlib.Omega.{arith}
use lib.Dec.{T}
use lib.IntN.{ℤ, pos, negsuc, nat_abs}
use lib.Signed.{lt_z, non_neg, mag}
use mir.Syntax.{Width, w16}
use mir.Val.{SFits, Fits, to_z, of_z, hbits, bits}
use mir.Facts.{to_z-of_z}
use mir.ValLaws.{to_z_pos}
use borrow.Author.Tests.{ltb-true}

module _ (w : Width) (x : ℤ) (f : SFits w x) where
  -- the test, without the bits
  plainly : (y : ℤ) → lt_z (to_z w (of_z w x)) y ≡ lt_z x y
  plainly y = ap (λ (z : ℤ). lt_z z y) (to_z-of_z f)

  -- the test held
  pub taken : lt_z (to_z w (of_z w x)) (pos 0) ≡ true → x ≡ negsuc (mag x)
  taken e = is-neg x (sym (plainly (pos 0)) ∙ e)
    where
      is-neg : (x : ℤ) → lt_z x (pos 0) ≡ true → x ≡ negsuc (mag x)
      is-neg (pos n) e = let h : n < 0 = ltb-true n 0 e in absurd (omega arith)
      is-neg (negsuc n) e = refl

  -- it did not
  pub left : lt_z (to_z w (of_z w x)) (pos 0) ≡ false → x ≡ pos (nat_abs x)
  left e = is_pos x (sym (plainly (pos 0)) ∙ e)
    where
      is_pos : (x : ℤ) → lt_z x (pos 0) ≡ false → x ≡ pos (nat_abs x)
      is_pos (pos n) e = refl
      is_pos (negsuc n) e = cc

  pub left_below : lt_z (to_z w (of_z w x)) (pos 0) ≡ false → nat_abs x < 2 ^ hbits w
  left_below e = go x (left e) f.sfits
    where
      go : (x : ℤ) → x ≡ pos (nat_abs x) → mag x < 2 ^ hbits w → nat_abs x < 2 ^ hbits w
      go (pos n) q h = h
      go (negsuc n) q h = let z : ◌≡◌ {A = ℕ} 0 1 = cc in absurd (omega arith)

  pub left-casts : (v : Width) → 2 ^ hbits w ≤ 2 ^ bits v → lt_z (to_z w (of_z w x)) (pos 0) ≡ false
      → T (non_neg (to_z w (of_z w x))) × Fits v (nat_abs (to_z w (of_z w x)))
  left-casts v h e =
      let b = left_below e in
      subst (λ (z : ℤ). T (non_neg z) × Fits v (nat_abs z)) (sym (to_z-of_z f))
      (rw (left e) (tt, record { fits = omega arith }))

-- a small number, kept as an i16 and read back
pub back : (z : ℤ) (x : ℕ) → z ≡ pos x → x < 32768 → to_z w16 (of_z w16 z) ≡ pos x
back z x e h = rw e (to_z_pos w16 x h)
