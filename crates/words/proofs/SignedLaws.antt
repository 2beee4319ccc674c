-- A signed number by its sign and its distance from 0.
use mathlib.Core.Path.{◌≡◌, ap}
use mathlib.Core.List.{◌++◌}
use lib.IntN.{ℤ, pos, negsuc, nat_abs}
use lib.Signed.{mag}
use Rattle.std.specs.Prelude.{ℕ, unsigned_abs}
use Rattle.page.specs.Characters.{dash}
use Rattle.page.specs.Numbers.{decimal_text}
use Rattle.words.specs.Signed.{signed_text}

pub below-zero : (z : ℤ) {n : ℕ} → n ≡ unsigned_abs z → z ≡ negsuc (mag z) → dash ++ decimal_text n ≡ signed_text z
unfolding signed_text
below-zero (pos k) e h = cc
below-zero (negsuc k) e h = ap (λ (i : ℕ). dash ++ decimal_text i) e

pub from_zero : (z : ℤ) {n : ℕ} → n ≡ unsigned_abs z → z ≡ pos (nat_abs z) → decimal_text n ≡ signed_text z
unfolding signed_text
from_zero (pos k) e h = ap decimal_text e
from_zero (negsuc k) e h = cc
