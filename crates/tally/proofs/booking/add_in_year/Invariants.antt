-- What the loop keeps, and its measure.
use Prim.Native.Nat.{◌+◌, ◌-◌, ◌≤◌}
use mathlib.Core.Path.{◌≡◌}
use lib.ListN.{length}
use Rattle.totals.specs.Totals.{sum, grown}
use Rattle.tally.specs.Steps.{weekday_in}
use Rattle.tally.proofs.booking.add_in_year.Given as goal

abbrev pub invariant-loop-at : goal.invariant-loop-at
invariant-loop-at l = (l.from ≤ l.at) × (l.at ≤ l.to) × (length l.sums ≡ 7) × (sum l.sums + (l.to - l.at) ≤ 18446744073709551615) × (grown 7 (weekday_in l.k) l.sums l.at l.to ≡ grown 7 (weekday_in l.k) l.initial.sums l.from l.to)

abbrev pub decreases-loop-at : goal.decreases-loop-at
decreases-loop-at l = l.to - l.at
