-- What the loop keeps.
use Prim.Native.Nat.{◌≤◌}
use Rattle.page.proofs.NumberLaws.{Spelling}
use Rattle.page.proofs.numbers.spelled.Given as goal

abbrev pub invariant-loop-i : goal.invariant-loop-i
invariant-loop-i l = (l.width ≤ 20) × Spelling l.n l.width l.digits l.rest l.i
