-- `dohlenwerk_tally_holds` meets its contract.
use mathlib.Core.Path.{ap}
use Rattle.tally.specs.declared.tallies.Held.{Held}
use Rattle.tally.specs.Answers.{held_of}
use Rattle.dohlenwerk.proofs.tallies.dohlenwerk_tally_holds.Goals as goal

pub returns : goal.returns
unfolding held_of
returns c = ap (λ (h : Held). h.holds) c.holds.ensures
