-- `sheet::csv::put_line` meets its contract, piece by piece.
use mathlib.Core.Path.{ap, ◌∙◌}
use lib.IntN.{ℤ}
use mir.Facts.{to_z-of_z}
use Rattle.page.specs.Pages.{text_of, extended}
use Rattle.page.specs.Times.{time_shown}
use Rattle.page.proofs.PageLaws.{both}
use Rattle.sheet.specs.Csv.{line_text}
use Rattle.sheet.proofs.csv.put_line.Goals as goal

pub returns : goal.returns
unfolding line_text
returns c =
    both _ _ _
    (both _ _ _
    (both _ _ _
    (both _ _ _
    (both _ _ _
    c.put-page.ensures
    c.put-page-2.ensures)
    c.put_numbers-page.ensures)
    c.put-page-3.ensures)
    (c.put_time-page.ensures ∙ ap (λ (z : ℤ). extended (text_of c.put-page-3.result) (time_shown z)) (to_z-of_z c.ranges.end)))
    c.put.ensures
