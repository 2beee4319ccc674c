-- `days::years::blocks_of` meets its contract: the code is the definition, block by block.
use Rattle.days.proofs.years.Blocks.{blocks-are}
use Rattle.days.proofs.years.blocks_of.Goals as goal

pub returns : goal.returns
returns c = blocks-are _ _ _ c.min-by_100.ensures c.min-by_1.ensures
