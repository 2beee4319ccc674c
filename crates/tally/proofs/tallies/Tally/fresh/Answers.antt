-- A fresh tally.
use borrow.Author.Rules.{rules}
use Rattle.tally.specs.Tallies.{fresh}
use Rattle.tally.proofs.tallies.Tally.fresh.Goals as goal

pub returns : goal.returns
unfolding fresh
returns c = search rules
