-- Signed numbers of w bytes in two's complement. Of the 256^w numbers the lower half stand for themselves, and n of the upper half
-- stands for n - 256^w. `pos n` is the integer n, and `negsuc n` is -1 - n.
use Rattle.std.specs.Prelude.{ℕ, ◌-◌, ◌/◌, ◌^◌, cond, ℤ, pos, negsuc, ltb}

-- half of the numbers that w bytes can be
abbrev pub half : ℕ → ℕ
half w = 256 ^ w / 2

-- the signed number that n stands for
unfoldable pub signed : ℕ → ℕ → ℤ
signed w n = cond (ltb n (half w)) (pos n) (negsuc (256 ^ w - 1 - n))

-- the number that stands for a signed one
unfoldable pub unsigned : ℕ → ℤ → ℕ
unsigned w (pos n) = n
unsigned w (negsuc n) = 256 ^ w - 1 - n
