-- `days::months::days_lacking` meets its contract, branch by branch.
use native.Mathlib.Omega.{arith}
use borrow.Author.Tests.{lt-ltb, le-ltb}
use Rattle.days.specs.Steps.{lacking}
use Rattle.days.proofs.months.days_lacking.Goals as goal

pub returns-then-r-lt60 : goal.returns-then-r-lt60
unfolding lacking
returns-then-r-lt60 c = (rw (c.if-leap.true, lt-ltb _ _ c.if-r-lt60.true), omega arith)

pub returns-then-leap : goal.returns-then-leap
unfolding lacking
returns-then-leap c = (rw (c.if-leap.true, le-ltb _ _ c.if-r-lt60.false), omega arith)

pub returns-then-r-lt59 : goal.returns-then-r-lt59
unfolding lacking
returns-then-r-lt59 c = (rw (c.if-leap.false, lt-ltb _ _ c.if-r-lt59.true), omega arith)

pub returns : goal.returns
unfolding lacking
returns c = (rw (c.if-leap.false, le-ltb _ _ c.if-r-lt59.false), omega arith)
