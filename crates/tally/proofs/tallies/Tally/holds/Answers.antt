-- `Tally::holds` meets its contract: the end, then the totals.
use native.Mathlib.Omega.{arith}
use Rattle.refusal.proofs.Tests.{failed, passed}
use Rattle.tally.specs.Tallies.{holds}
use Rattle.tally.specs.Answers.{held_of}
use Rattle.tally.proofs.tallies.HoldingLaws.{spanned}
use Rattle.tally.proofs.tallies.Tally.holds.Goals as goal

pub returns-then-not-in_span : goal.returns-then-not-in_span
unfolding held_of holds
returns-then-not-in_span c = rw (failed c.in_span.ensures c.if-not-in_span.true)

pub overflow_sub-at : goal.overflow_sub-at
overflow_sub-at c = omega (arith, c.at.ensures, (spanned _ (passed c.in_span.ensures c.if-not-in_span.false)).start)

pub returns : goal.returns
unfolding held_of holds
returns c =
    let d = c in
    rw (passed d.in_span.ensures d.if-not-in_span.false, c.fit-holds.ensures, c.at.ensures)
