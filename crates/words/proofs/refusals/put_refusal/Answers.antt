-- `words::refusals::put_refusal` meets its contract, piece by piece.
use Rattle.page.proofs.PageLaws.{both}
use Rattle.words.specs.Refusals.{refusal_text}
use Rattle.words.proofs.refusals.put_refusal.Goals as goal

pub returns : goal.returns
unfolding refusal_text
returns c =
    both _ _ _
    (both _ _ _
    (both _ _ _
    (both _ _ _ c.put.ensures (rw (c.from-2.ensures, c.from.ensures) at c.put_decimal.ensures))
    c.put-page.ensures)
    c.put_words.ensures)
    c.put-2.ensures
