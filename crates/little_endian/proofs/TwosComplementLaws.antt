-- Two's complement, once for every width of the machine: it is how the machine reads its own bits.
use Prim.Native.Nat.{ℕ, suc, ◌-◌, ◌/◌, ◌^◌, ◌<◌}
use mathlib.Core.Path.{◌≡◌, refl, sym, ◌∙◌}
use mathlib.Core.Bool.{Bool, true, false, cond}
use native.Mathlib.Omega.{arith}
use lib.Dec.{ltb}
use lib.IntN.{ℤ, pos, negsuc}
use mir.Syntax.{Width, w8, w16, w32, w64, w128}
use mir.Val.{bits, hbits, sel, to_z, of_z, Fits, SFits}
use mir.ValLaws.{pow-bits, to_z-of_z, of_z-to_z, of_z_fits}
use Rattle.little_endian.specs.TwosComplement.{half, signed, unsigned}
use Rattle.little_endian.specs.RoundTrips.{unsigned-signed}

-- the bytes of a width: 4 at w32, 8 at w64
abbrev pub bytes : Width → ℕ
bytes w = bits w / 8

whole : (w : Width) → 256 ^ bytes w ≡ 2 ^ bits w
whole w8 = refl
whole w16 = refl
whole w32 = refl
whole w64 = refl
whole w128 = refl

cond-sel : (b : Bool) (x y : ℤ) → cond b x y ≡ sel b x y
cond-sel true x y = refl
cond-sel false x y = refl

module _ (w : Width) where
  half_is : half (bytes w) ≡ 2 ^ hbits w
  half_is = rw (whole w) (omega (arith, pow-bits w))

  pub signed-toZ : (u : ℕ) → signed (bytes w) u ≡ to_z w u
  unfolding signed
  signed-toZ u =
      let e : 2 ^ bits w - 1 - u ≡ 2 ^ bits w - suc u = omega arith in
      rw (half_is, whole w, e) (cond-sel (ltb u (2 ^ hbits w)) (pos u) (negsuc (2 ^ bits w - suc u)))

  unsigned-ofZ : (z : ℤ) → unsigned (bytes w) z ≡ of_z w z
  unfolding unsigned
  unsigned-ofZ (pos k) = refl
  unsigned-ofZ (negsuc k) =
      let e : 2 ^ bits w - 1 - k ≡ 2 ^ bits w - suc k = omega arith in
      rw (whole w, e)

  -- ---- there and back
  pub signed_back : (z : ℤ) → SFits w z → signed (bytes w) (unsigned (bytes w) z) ≡ z
  signed_back z f = rw (signed-toZ, unsigned-ofZ) (to_z-of_z w z f)

  pub unsigned_back : (u : ℕ) → u < 256 ^ bytes w → unsigned (bytes w) (signed (bytes w) u) ≡ u
  unsigned_back = unsigned-signed (bytes w)

  pub unsigned-lt : (z : ℤ) → SFits w z → unsigned (bytes w) z < 256 ^ bytes w
  unsigned-lt z f = rw (whole w, unsigned-ofZ) (of_z_fits w z f).fits

  -- ---- as a cast between the two types of a width leaves it
  pub signed-cast : (u : ℕ) → Fits w u → {z : ℤ} → z ≡ to_z w u → to_z w (of_z w z) ≡ signed (bytes w) u
  signed-cast u f e = rw (e, of_z-to_z w u f) (sym (signed-toZ u))

  pub unsigned-cast : (z : ℤ) → SFits w z → {u : ℕ} → u ≡ of_z w (to_z w (of_z w z)) → u ≡ unsigned (bytes w) z
  unsigned-cast z f e = rw (to_z-of_z w z f) at e ∙ sym (unsigned-ofZ z)
