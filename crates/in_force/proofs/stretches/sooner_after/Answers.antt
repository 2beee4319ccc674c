-- `in_force::stretches::sooner_after` meets its contract, by whether the tick comes after u and before the end.
use Rattle.in_force.specs.Stretches.{sooner_after}
use Rattle.in_force.proofs.stretches.sooner_after.Goals as goal

pub returns-then-u-tick : goal.returns-then-u-tick
unfolding sooner_after
returns-then-u-tick c = rw c.if-u-tick.true

pub returns : goal.returns
unfolding sooner_after
returns c = rw c.if-u-tick.false
