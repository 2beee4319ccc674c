-- `sheet::csv::put_numbers` meets its contract, piece by piece.
use Prim.Native.Nat.{ℕ}
use mathlib.Core.Path.{ap, ◌∙◌}
use Rattle.page.specs.Pages.{text_of, extended}
use Rattle.page.specs.Numbers.{decimal_text}
use Rattle.page.proofs.PageLaws.{both}
use Rattle.sheet.specs.Csv.{numbers_text}
use Rattle.sheet.proofs.csv.put_numbers.Goals as goal

pub returns : goal.returns
unfolding numbers_text
returns c =
    both _ _ _
    (both _ _ _
    (both _ _ _
    (both _ _ _
    (c.put_decimal-page.ensures ∙ ap (λ (n : ℕ). extended (text_of c.args.page) (decimal_text n)) c.hours.ensures)
    c.put-page.ensures)
    (c.put_decimal-page-2.ensures ∙ ap (λ (n : ℕ). extended (text_of c.put-page.result) (decimal_text n)) c.minutes.ensures))
    c.put-page-2.ensures)
    c.put_decimal.ensures
