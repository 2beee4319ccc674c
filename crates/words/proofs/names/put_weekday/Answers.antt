-- `words::names::put_weekday` meets its contract, arm by arm.
use native.Mathlib.Omega.{arith}
use Rattle.words.specs.Names.{weekday_name}
use Rattle.words.proofs.NameLaws.{other-weekday}
use Rattle.words.proofs.names.put_weekday.Goals as goal

pub returns-in-0 : goal.returns-in-0
unfolding weekday_name
returns-in-0 c = rw c.in-0.is c.put.ensures

pub returns-in-1 : goal.returns-in-1
unfolding weekday_name
returns-in-1 c = rw c.in-1.is c.put-in-1.ensures

pub returns-in-2 : goal.returns-in-2
unfolding weekday_name
returns-in-2 c = rw c.in-2.is c.put-in-2.ensures

pub returns-in-3 : goal.returns-in-3
unfolding weekday_name
returns-in-3 c = rw c.in-3.is c.put-in-3.ensures

pub returns-in-4 : goal.returns-in-4
unfolding weekday_name
returns-in-4 c = rw c.in-4.is c.put-in-4.ensures

pub returns-in-5 : goal.returns-in-5
unfolding weekday_name
returns-in-5 c = rw c.in-5.is c.put-in-5.ensures

pub returns-in_default : goal.returns-in_default
returns-in_default c = rw (other-weekday c.args.weekday (λ e. omega arith) (λ e. omega arith) (λ e. omega arith) (λ e. omega arith) (λ e. omega arith) (λ e. omega arith)) c.put-in_default.ensures
