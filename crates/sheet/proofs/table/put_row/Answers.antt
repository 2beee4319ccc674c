-- `sheet::table::put_row` meets its contract, piece by piece.
use Prim.Native.Nat.{ℕ}
use mathlib.Core.Path.{ap, ◌∙◌}
use Rattle.page.specs.Pages.{text_of, extended}
use Rattle.page.specs.Numbers.{digits_of, right_text}
use Rattle.page.proofs.PageLaws.{both}
use Rattle.sheet.specs.Table.{row_text}
use Rattle.sheet.proofs.table.put_row.Goals as goal

pub returns : goal.returns
unfolding row_text
returns c =
    both _ _ _
    (both _ _ _
    (both _ _ _
    (both _ _ _
    c.put_left-page.ensures
    (c.put_right-page.ensures ∙ ap (λ (n : ℕ). extended (text_of c.put_left-page.result) (right_text 6 n)) c.hours.ensures))
    c.put-page.ensures)
    (c.put_digits-page.ensures ∙ ap (λ (n : ℕ). extended (text_of c.put-page.result) (digits_of 2 n)) c.minutes.ensures))
    c.put.ensures
