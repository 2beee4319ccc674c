-- `sheet::table::put_end` meets its contract, piece by piece.
use mathlib.Core.Path.{ap, ◌∙◌}
use lib.IntN.{ℤ}
use mir.Facts.{to_z-of_z}
use Rattle.page.specs.Pages.{text_of, extended}
use Rattle.page.specs.Times.{time_shown}
use Rattle.page.proofs.PageLaws.{both}
use Rattle.sheet.specs.Table.{end_text}
use Rattle.sheet.proofs.table.put_end.Goals as goal

pub returns : goal.returns
unfolding end_text
returns c =
    both _ _ _
    (both _ _ _
    c.put-page.ensures
    (c.put_time-page.ensures ∙ ap (λ (z : ℤ). extended (text_of c.put-page.result) (time_shown z)) (to_z-of_z c.ranges.end)))
    c.put.ensures
