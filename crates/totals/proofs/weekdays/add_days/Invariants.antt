-- What the loop keeps, and its measure.
use Prim.Native.Nat.{ℕ, ◌+◌, ◌-◌, ◌*◌, ◌/◌, ◌%◌, ◌≤◌}
use mathlib.Core.Path.{◌≡◌}
use mathlib.Core.List.{List}
use lib.ListN.{length}
use Rattle.days.specs.Ticks.{weekday_of}
use Rattle.totals.specs.Totals.{sum, grown}
use Rattle.totals.proofs.weekdays.add_days.Given as goal

-- x comes before the next midnight, whose day before has that weekday. The totals so far, grown by what is left, come to the whole.
pub record Inv (from to x midnight weekday : ℕ) (sums totals : List ℕ) : Type 0 where
  pub start : from ≤ x
  pub left : x ≤ to
  pub next : midnight ≡ (x / 864000000000 + 1) * 864000000000
  pub day : weekday ≡ (x / 864000000000 + 1) % 7
  pub seven : length sums ≡ 7
  pub room : sum sums + (to - x) ≤ 18446744073709551615
  pub grows : grown 7 weekday_of sums x to ≡ grown 7 weekday_of totals from to

abbrev pub invariant-loop-midnight : goal.invariant-loop-midnight
invariant-loop-midnight l = Inv l.from l.to l.x l.midnight l.weekday l.sums l.initial.sums

abbrev pub decreases-loop-midnight : goal.decreases-loop-midnight
decreases-loop-midnight l = l.to - l.midnight
