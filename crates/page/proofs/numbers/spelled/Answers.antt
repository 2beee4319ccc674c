-- `page::numbers::spelled` meets its contract.
use native.Mathlib.Omega.{arith}
use Rattle.page.proofs.NumberLaws.{spelling-next, spelling-ends}
use Rattle.page.proofs.numbers.spelled.Goals as goal

pub loop-i-preserved : goal.loop-i-preserved
loop-i-preserved c =
    let l = c.loop-i in
    (l.invariant.0, spelling-next l.invariant.0 l.i l.invariant.1 c.loop-i-test.true)

pub returns : goal.returns
returns c = spelling-ends c.loop-i.invariant.1 (omega arith)
