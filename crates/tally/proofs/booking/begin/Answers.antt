-- `tally::booking::begin` meets its contract: a tally has seven totals.
use borrow.Author.Rules.{rules}
use Rattle.totals.proofs.TableLaws.{table_is}
use Rattle.tally.specs.Steps.{seven_of}
use Rattle.tally.proofs.WalkLaws.{begun-is}
use Rattle.tally.proofs.booking.begin.Goals as goal

pub returns : goal.returns
unfolding seven_of
returns c =
    let s = c in
    begun-is c.args.booking _ _ _ _ c.at-from.ensures c.at.ensures c.year_of.ensures (table_is 7 c.args.booking.tally.totals (search rules))
