-- Signed numbers in decimal.
use Rattle.std.specs.Prelude.{ℕ, suc, List, ◌++◌, ℤ, pos, negsuc}
use Rattle.page.specs.Characters.{dash}
use Rattle.page.specs.Numbers.{decimal_text}

unfoldable pub signed_text : ℤ → List ℕ
signed_text (pos n) = decimal_text n
signed_text (negsuc n) = dash ++ decimal_text (suc n)
