-- `words::rules::put_half` meets its contract, piece by piece.
use mathlib.Core.Path.{ap, ◌∙◌}
use lib.IntN.{ℤ}
use mir.Facts.{to_z-of_z}
use Rattle.page.specs.Pages.{text_of, extended}
use Rattle.page.proofs.PageLaws.{both}
use Rattle.words.specs.Rules.{bias_text, half_text}
use Rattle.words.proofs.rules.put_half.Goals as goal

pub returns : goal.returns
unfolding half_text
returns c =
    both _ _ _
    (both _ _ _
    (both _ _ _ c.put.ensures (c.put_bias-page.ensures ∙ ap (λ (z : ℤ). extended (text_of c.put.result) (bias_text z)) (to_z-of_z c.ranges.bias)))
    c.put_date.ensures)
    c.put-2.ensures
