-- `words::rules::put_head` meets its contract: the year, and the mark where it is set.
use Rattle.page.proofs.PageLaws.{both}
use Rattle.words.specs.Rules.{head_text}
use Rattle.words.proofs.rules.put_head.Goals as goal

pub returns-then-rule : goal.returns-then-rule
unfolding head_text
returns-then-rule c =
    rw c.if-rule.true
    (both _ _ _
    (both _ _ _
    (both _ _ _ c.put.ensures c.put_decimal.ensures)
    c.put-page.ensures)
    c.put-then-rule.ensures)

pub returns : goal.returns
unfolding head_text
returns c =
    rw c.if-rule.false
    (both _ _ _
    (both _ _ _
    (both _ _ _ c.put.ensures c.put_decimal.ensures)
    c.put-page.ensures)
    c.put-2.ensures)
