-- `page::times::put_year` meets its contract.
use borrow.Author.Tests.{lt-ltb, le-ltb}
use Rattle.page.specs.Times.{year_text}
use Rattle.page.proofs.times.put_year.Goals as goal

pub returns-then-year-gt9999 : goal.returns-then-year-gt9999
unfolding year_text
returns-then-year-gt9999 c = rw (lt-ltb _ _ c.if-year-gt9999.true) c.put_digits.ensures

pub returns : goal.returns
unfolding year_text
returns c = rw (le-ltb _ _ c.if-year-gt9999.false) c.put_digits-2.ensures
