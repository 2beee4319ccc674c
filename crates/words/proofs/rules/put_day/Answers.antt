-- `words::rules::put_day` meets its contract: a day of one year, or of every year, piece by piece.
use borrow.Author.Tests.{eq-eqb, ne_eqb}
use Rattle.page.proofs.PageLaws.{both}
use Rattle.words.specs.Rules.{when_text, yearly_text, day_text}
use Rattle.words.proofs.rules.put_day.Goals as goal

pub returns-then-date-ne0 : goal.returns-then-date-ne0
unfolding when_text day_text
returns-then-date-ne0 c =
    rw (ne_eqb _ 0 c.if-date-ne0.true)
    (both _ _ _
    (both _ _ _
    (both _ _ _
    (both _ _ _ c.put_digits.ensures c.put.ensures)
    c.put_digits-then-date-ne0.ensures)
    c.put-then-date-ne0.ensures)
    c.put_digits-then-date-ne0-2.ensures)

pub returns : goal.returns
unfolding when_text yearly_text
returns c =
    rw (eq-eqb _ 0 c.if-date-ne0.false)
    (both _ _ _
    (both _ _ _
    (both _ _ _
    (both _ _ _
    (both _ _ _ c.put-2.ensures c.put_occurrence-page.ensures)
    c.put-3.ensures)
    c.put_weekday-page.ensures)
    c.put-4.ensures)
    c.put_month.ensures)
