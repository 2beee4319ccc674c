-- `words::rules::put_seconds` meets its contract, by whether both are zero.
use Rattle.page.proofs.PageLaws.{both}
use Rattle.words.specs.Rules.{seconds_text}
use Rattle.words.proofs.rules.put_seconds.Goals as goal

pub returns-then-second-millisecond : goal.returns-then-second-millisecond
unfolding seconds_text
returns-then-second-millisecond c = rw c.if-second-millisecond.true c.put.ensures

pub returns : goal.returns
unfolding seconds_text
returns c =
    rw c.if-second-millisecond.false
    (both _ _ _
    (both _ _ _
    (both _ _ _ c.put-2.ensures c.put_digits.ensures)
    c.put-3.ensures)
    c.put_digits-2.ensures)
