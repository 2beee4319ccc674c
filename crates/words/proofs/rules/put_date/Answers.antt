-- `words::rules::put_date` meets its contract, piece by piece.
use Rattle.page.proofs.PageLaws.{both}
use Rattle.words.specs.Rules.{switch_text}
use Rattle.words.proofs.rules.put_date.Goals as goal

pub returns : goal.returns
unfolding switch_text
returns c =
    both _ _ _
    (both _ _ _
    (both _ _ _
    (both _ _ _
    (both _ _ _
    (both _ _ _ c.put.ensures c.put_day-page.ensures)
    c.put-2.ensures)
    c.put_digits.ensures)
    c.put-3.ensures)
    c.put_digits-page.ensures)
    c.put_seconds.ensures
