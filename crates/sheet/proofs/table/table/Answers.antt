-- `sheet::table::table` meets its contract, piece by piece: nothing is cut.
use Prim.Native.Nat.{ℕ}
use mathlib.Core.Path.{ap, ◌∙◌}
use mathlib.Core.List.{List}
use lib.IntN.{ℤ}
use lib.ListN.{get_or}
use mir.Syntax.{w64}
use mir.Val.{Fits, SFits}
use mir.Facts.{to_z-of_z}
use Rattle.page.specs.Pages.{text_of, extended}
use Rattle.page.proofs.PageLaws.{both}
use Rattle.page.proofs.LengthLaws.{not-cut}
use Rattle.sheet.specs.Names.{total}
use Rattle.sheet.specs.Table.{row_text, end_text, table_text}
use Rattle.sheet.proofs.HourLaws.{Whole}
use Rattle.sheet.proofs.TableLaws.{table_fits}
use borrow.Author.Rules.{rules}
use Rattle.sheet.proofs.table.table.Goals as goal

pub returns : goal.returns
unfolding table_text
returns c =
    let t = c.args.tally in
    let fits : SFits w64 t.end.0 = search rules in
    -- by its type, each total is a number of 64 bits
    let whole : Whole t = λ i. (let f : Fits w64 (get_or t.totals i 0) = search rules in f.fits) in
    both _ _ _
    (both _ _ _
    c.put_rows-page.ensures
    (c.put_row-page.ensures ∙ ap (λ (n : ℕ). extended (text_of c.put_rows-page.result) (row_text total n)) c.time_run.ensures))
    (c.put_end.ensures ∙ ap (λ (z : ℤ). extended (text_of c.put_row-page.result) (end_text z)) (to_z-of_z fits))
    ∙ ap (λ (l : List ℕ). extended l (table_text t)) c.blank.ensures
    ∙ not-cut (table_text t) (table_fits t whole)
