-- Numbers and their bytes, over the width.
use Prim.Native.Nat.{ℕ, zero, suc, ◌+◌, ◌*◌, ◌/◌, ◌^◌, ◌<◌}
use mathlib.Core.Path.{◌≡◌, refl, ap}
use mathlib.Core.List.{List, [], ◌∷◌, ◌++◌}
use native.Mathlib.Omega.{arith}
use native.Mathlib.Nat.{pow-suc, pow-succ', mul_assoc}
use lib.ListN.{length}
use Rattle.little_endian.specs.Bytes.{from_bytes, to_bytes}

pub length-toBytes : (w n : ℕ) → length (to_bytes w n) ≡ w
unfolding to_bytes
length-toBytes zero n = refl
length-toBytes (suc w) n = ap suc (length-toBytes w (n / 256))

-- a number that fits a width is read back from its bytes
pub from-to : (w n : ℕ) → n < 256 ^ w → from_bytes (to_bytes w n) ≡ n
unfolding from_bytes to_bytes
from-to zero n h = omega arith
from-to (suc w) n h =
    let p : 256 ^ suc w ≡ 256 ^ w * 256 = pow-suc 256 w in
    let r : from_bytes (to_bytes w (n / 256)) ≡ n / 256 = from-to w (n / 256) (omega arith) in
    omega arith

-- bytes that follow those of a count 256 ^ length a times as much
pub from-append : (a b : List ℕ) → from_bytes (a ++ b) ≡ from_bytes a + 256 ^ length a * from_bytes b
unfolding from_bytes
from-append [] b = omega arith
from-append (x ∷ a) b = rw (from-append a b, pow-succ' 256 (length a), mul_assoc 256 (256 ^ length a) (from_bytes b)) (omega arith)
