-- What an `impl` of `Field` owes for a signed number: the bits of what n means are n.
use Rattle.std.specs.Prelude.{ℕ, ◌≡◌, ◌-◌, ◌^◌, ◌<◌, Bool, true, false, cond, pos, negsuc, ltb, refl}
use Rattle.std.proofs.Common.{arith}
use Rattle.little_endian.specs.TwosComplement.{half, signed, unsigned}

pub unsigned-signed : (w n : ℕ) → n < 256 ^ w → unsigned w (signed w n) ≡ n
unfolding signed unsigned
unsigned-signed w n h = by (ltb n (half w))
  where
    by : (b : Bool) → unsigned w (cond b (pos n) (negsuc (256 ^ w - 1 - n))) ≡ n
    by true = refl
    by false = omega arith
