-- `calendar::seconds::whole_seconds` meets its contract, test by test.
use borrow.Author.Tests.{le-leb, lt-leb}
use Rattle.calendar.specs.Seconds.{whole_seconds}
use Rattle.calendar.proofs.seconds.whole_seconds.Goals as goal

pub returns-then-tick-start : goal.returns-then-tick-start
unfolding whole_seconds
returns-then-tick-start c = rw (lt-leb _ _ c.if-tick-start.true)

pub returns-then-seconds-gt4294967295 : goal.returns-then-seconds-gt4294967295
unfolding whole_seconds
returns-then-seconds-gt4294967295 c = rw (le-leb _ _ c.if-tick-start.false, lt-leb _ _ c.if-seconds-gt4294967295.true)

pub returns : goal.returns
unfolding whole_seconds
returns c = rw (le-leb _ _ c.if-tick-start.false, le-leb _ _ c.if-seconds-gt4294967295.false)
