-- `page::times::put_date` meets its contract, piece by piece.
use Rattle.page.specs.Times.{date_text}
use Rattle.page.proofs.PageLaws.{both}
use Rattle.page.proofs.times.put_date.Goals as goal

pub returns : goal.returns
unfolding date_text
returns c =
    both _ _ _ (both _ _ _ (both _ _ _ (both _ _ _ c.put_year-page.ensures c.put-page.ensures) c.put_digits-page.ensures) c.put-page-2.ensures) c.put_digits.ensures
