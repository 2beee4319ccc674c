-- `words::rules::put_bias` meets its contract, piece by piece.
use mathlib.Core.Path.{ap, ◌∙◌}
use lib.IntN.{ℤ}
use mir.Facts.{to_z-of_z}
use Rattle.page.specs.Pages.{text_of, extended}
use Rattle.page.proofs.PageLaws.{both}
use Rattle.words.specs.Signed.{signed_text}
use Rattle.words.specs.Rules.{bias_text}
use Rattle.words.proofs.rules.put_bias.Goals as goal

pub returns : goal.returns
unfolding bias_text
returns c =
    both _ _ _
    (both _ _ _ c.put.ensures (c.put_signed.ensures ∙ ap (λ (z : ℤ). extended (text_of c.put.result) (signed_text z)) (to_z-of_z c.ranges.bias)))
    c.put-2.ensures
