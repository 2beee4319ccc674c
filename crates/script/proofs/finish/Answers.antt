-- `finish` meets its contract, on either side of its test.
use Rattle.tally.specs.Answers.{no_tally}
use Rattle.script.proofs.finish.Goals as goal

pub returns-then-state : goal.returns-then-state
unfolding no_tally
returns-then-state c = rw c.if-state.true
