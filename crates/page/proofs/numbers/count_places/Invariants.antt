-- What the loop keeps, and its measure.
use Prim.Native.Nat.{◌-◌, ◌^◌, ◌<◌}
use Rattle.page.proofs.NumberLaws.{Counting}
use Rattle.page.proofs.numbers.count_places.Given as goal

abbrev pub invariant-loop-rest : goal.invariant-loop-rest
invariant-loop-rest l = (l.n < 10 ^ 20) × Counting l.n l.count l.rest (20 - l.count)

abbrev pub decreases-loop-rest : goal.decreases-loop-rest
decreases-loop-rest l = l.rest
