-- `page::times::put_hour` meets its contract, piece by piece.
use Rattle.page.specs.Times.{hour_text}
use Rattle.page.proofs.PageLaws.{both}
use Rattle.page.proofs.times.put_hour.Goals as goal

pub returns : goal.returns
unfolding hour_text
returns c =
    both _ _ _ (both _ _ _ (both _ _ _ (both _ _ _ c.put_digits-page.ensures c.put-page.ensures) c.put_digits-page-2.ensures) c.put-page-2.ensures) c.put_digits.ensures
