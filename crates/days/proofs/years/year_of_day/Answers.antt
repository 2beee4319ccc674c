-- `days::years::year_of_day` meets its contract: the blocks lead to the year that the walk over years finds.
use borrow.Author.Rules.{rules}
use Rattle.days.proofs.years.Blocks.{are-blocks, blocks-lead}
use Rattle.days.proofs.years.year_of_day.Goals as goal

pub overflow_mul-result : goal.overflow_mul-result
overflow_mul-result c = let h = are-blocks _ _ c.blocks_of-k.ensures in search rules

pub overflow_mul-result-2 : goal.overflow_mul-result-2
overflow_mul-result-2 c = let h = are-blocks _ _ c.blocks_of-k.ensures in search rules

pub overflow_add-result : goal.overflow_add-result
overflow_add-result c = let h = are-blocks _ _ c.blocks_of-k.ensures in search rules

pub overflow_mul-result-3 : goal.overflow_mul-result-3
overflow_mul-result-3 c = let h = are-blocks _ _ c.blocks_of-k.ensures in search rules

pub overflow_add-result-2 : goal.overflow_add-result-2
overflow_add-result-2 c = let h = are-blocks _ _ c.blocks_of-k.ensures in search rules

pub overflow_add-result-3 : goal.overflow_add-result-3
overflow_add-result-3 c = let h = are-blocks _ _ c.blocks_of-k.ensures in search rules

pub overflow_add-result-4 : goal.overflow_add-result-4
overflow_add-result-4 c = let h = are-blocks _ _ c.blocks_of-k.ensures in search rules

pub returns : goal.returns
returns c = blocks-lead _ _ c.blocks_of-k.ensures
