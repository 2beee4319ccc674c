-- `rows::search::not_after` meets its contract: it is the test itself.
use mathlib.Core.Path.{refl}
use Rattle.rows.specs.Search.{not_after}
use Rattle.rows.proofs.search.not_after.Goals as goal

pub returns : goal.returns
unfolding not_after
returns c = refl
