-- `tally::tallies::in_span` meets its contract.
use borrow.Author.Tests.{lt-leb, le-leb}
use Rattle.tally.specs.Tallies.{in_span}
use Rattle.tally.proofs.tallies.in_span.Goals as goal

pub returns-then-ticks-lt315360000000000 : goal.returns-then-ticks-lt315360000000000
unfolding in_span
returns-then-ticks-lt315360000000000 c =
    let e = c.at-ticks.ensures in
    rw (← e, lt-leb _ _ c.if-ticks-lt315360000000000.true)

pub returns : goal.returns
unfolding in_span
returns c =
    let e = c.at-ticks.ensures in
    rw (← e, le-leb _ _ c.if-ticks-lt315360000000000.false)
