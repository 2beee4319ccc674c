-- What the loop keeps: each total before this place has grown, and none from there on.
use Prim.Native.Nat.{ℕ, ◌+◌, ◌≤◌, ◌<◌}
use mathlib.Core.Path.{◌≡◌}
use lib.ListN.{get_or}
use Rattle.totals.proofs.weekdays.add_to_each.Given as goal

abbrev pub invariant-loop-total : goal.invariant-loop-total
invariant-loop-total l = record {
  grown : (k : ℕ) → k < l.total-index → get_or l.total-items k 0 ≡ get_or l.initial.total-items k 0 + l.ticks;
  left : (k : ℕ) → l.total-index ≤ k → get_or l.total-items k 0 ≡ get_or l.initial.total-items k 0;
}
