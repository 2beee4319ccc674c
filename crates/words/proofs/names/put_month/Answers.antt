-- `words::names::put_month` meets its contract, arm by arm.
use native.Mathlib.Omega.{arith}
use Rattle.words.specs.Names.{month_name}
use Rattle.words.proofs.NameLaws.{other-month}
use Rattle.words.proofs.names.put_month.Goals as goal

pub returns-in-1 : goal.returns-in-1
unfolding month_name
returns-in-1 c = rw c.in-1.is c.put.ensures

pub returns-in-2 : goal.returns-in-2
unfolding month_name
returns-in-2 c = rw c.in-2.is c.put-in-2.ensures

pub returns-in-3 : goal.returns-in-3
unfolding month_name
returns-in-3 c = rw c.in-3.is c.put-in-3.ensures

pub returns-in-4 : goal.returns-in-4
unfolding month_name
returns-in-4 c = rw c.in-4.is c.put-in-4.ensures

pub returns-in-5 : goal.returns-in-5
unfolding month_name
returns-in-5 c = rw c.in-5.is c.put-in-5.ensures

pub returns-in-6 : goal.returns-in-6
unfolding month_name
returns-in-6 c = rw c.in-6.is c.put-in-6.ensures

pub returns-in-7 : goal.returns-in-7
unfolding month_name
returns-in-7 c = rw c.in-7.is c.put-in-7.ensures

pub returns-in-8 : goal.returns-in-8
unfolding month_name
returns-in-8 c = rw c.in-8.is c.put-in-8.ensures

pub returns-in-9 : goal.returns-in-9
unfolding month_name
returns-in-9 c = rw c.in-9.is c.put-in-9.ensures

pub returns-in-10 : goal.returns-in-10
unfolding month_name
returns-in-10 c = rw c.in-10.is c.put-in-10.ensures

pub returns-in-11 : goal.returns-in-11
unfolding month_name
returns-in-11 c = rw c.in-11.is c.put-in-11.ensures

pub returns-in_default : goal.returns-in_default
returns-in_default c = rw (other-month c.args.month (λ e. omega arith) (λ e. omega arith) (λ e. omega arith) (λ e. omega arith) (λ e. omega arith) (λ e. omega arith) (λ e. omega arith) (λ e. omega arith) (λ e. omega arith) (λ e. omega arith) (λ e. omega arith)) c.put-in_default.ensures
