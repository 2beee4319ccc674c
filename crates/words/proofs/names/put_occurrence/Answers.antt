-- `words::names::put_occurrence` meets its contract, arm by arm.
use native.Mathlib.Omega.{arith}
use Rattle.words.specs.Names.{occurrence_name}
use Rattle.words.proofs.NameLaws.{other-occurrence}
use Rattle.words.proofs.names.put_occurrence.Goals as goal

pub returns-in-1 : goal.returns-in-1
unfolding occurrence_name
returns-in-1 c = rw c.in-1.is c.put.ensures

pub returns-in-2 : goal.returns-in-2
unfolding occurrence_name
returns-in-2 c = rw c.in-2.is c.put-in-2.ensures

pub returns-in-3 : goal.returns-in-3
unfolding occurrence_name
returns-in-3 c = rw c.in-3.is c.put-in-3.ensures

pub returns-in-4 : goal.returns-in-4
unfolding occurrence_name
returns-in-4 c = rw c.in-4.is c.put-in-4.ensures

pub returns-in_default : goal.returns-in_default
returns-in_default c = rw (other-occurrence c.args.day (λ e. omega arith) (λ e. omega arith) (λ e. omega arith) (λ e. omega arith)) c.put-in_default.ensures
