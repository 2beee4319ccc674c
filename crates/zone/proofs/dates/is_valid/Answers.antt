-- `zone::dates::is_valid` meets its contract: the tests are joined as the definition joins them.
use Rattle.zone.specs.Dates.{valid_date}
use Rattle.zone.proofs.dates.is_valid.Goals as goal

pub returns : goal.returns
unfolding valid_date
returns c = cc
