-- `sheet::csv::csv` meets its contract, piece by piece: nothing is cut.
use Prim.Native.Nat.{ℕ}
use mathlib.Core.Path.{◌≡◌, ap, ◌∙◌}
use mathlib.Core.List.{List}
use lib.IntN.{ℤ}
use lib.ListN.{get_or}
use mir.Syntax.{w64}
use mir.Val.{Fits, SFits, to_z, of_z}
use mir.Facts.{to_z-of_z}
use Rattle.page.specs.Pages.{text_of, extended}
use Rattle.page.proofs.PageLaws.{both}
use Rattle.page.proofs.LengthLaws.{not-cut}
use Rattle.sheet.specs.Names.{total}
use Rattle.sheet.specs.Csv.{line_text, lines_text, csv_text}
use Rattle.sheet.proofs.HourLaws.{Whole}
use Rattle.sheet.proofs.CsvLaws.{csv-fits}
use borrow.Author.Rules.{rules}
use Rattle.sheet.proofs.csv.csv.Goals as goal

pub returns : goal.returns
unfolding csv_text
returns c =
    let t = c.args.tally in
    let fits : SFits w64 t.end.0 = search rules in
    let end : to_z w64 (of_z w64 t.end.0) ≡ t.end.0 = to_z-of_z fits in
    -- by its type, each total is a number of 64 bits
    let whole : Whole t = λ i. (let f : Fits w64 (get_or t.totals i 0) = search rules in f.fits) in
    both _ _ _
    (both _ _ _
    c.put-page.ensures
    (c.put_lines-page.ensures ∙ ap (λ (z : ℤ). extended (text_of c.put-page.result) (lines_text z t.totals)) end))
    (c.put_line.ensures
    ∙ ap (λ (z : ℤ). extended (text_of c.put_lines-page.result) (line_text z total c.time_run.result)) end
    ∙ ap (λ (n : ℕ). extended (text_of c.put_lines-page.result) (line_text t.end.0 total n)) c.time_run.ensures)
    ∙ ap (λ (l : List ℕ). extended l (csv_text t)) c.blank.ensures
    ∙ not-cut (csv_text t) (csv-fits t whole)
