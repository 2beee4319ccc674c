-- What the loop keeps.
use Prim.Native.Nat.{◌+◌}
use mathlib.Core.Path.{◌≡◌}
use lib.ListN.{drop}
use Rattle.totals.specs.Totals.{sum}
use Rattle.tally.proofs.tallies.fit.Given as goal

abbrev pub invariant-loop-total : goal.invariant-loop-total
invariant-loop-total l = sum l.total-items + l.left ≡ l.most + sum (drop l.total-index l.total-items)
