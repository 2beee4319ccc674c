-- What is left leads to the same end as the whole.
use Rattle.std.proofs.Common.{◌≡◌, ◌-◌}
use Rattle.tally.specs.Steps.{Walking, walked}
use Rattle.tally.proofs.booking.walk_on.Given as goal

abbrev pub invariant-loop-walk : goal.invariant-loop-walk
invariant-loop-walk l =
    record {
      walking : Walking l.walk;
      same : walked l.row.rules.now l.walk ≡ walked l.row.rules.now l.initial.walk;
    }

abbrev pub decreases-loop-walk : goal.decreases-loop-walk
decreases-loop-walk l = l.walk.to - l.walk.at
