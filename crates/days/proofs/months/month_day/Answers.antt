-- `days::months::month_day` meets its contract: the code is the definition.
-- src/months.rt:60:23
use Rattle.days.specs.Steps.{month_day}
use Rattle.days.proofs.months.month_day.Goals as goal

-- src/months.rt:56:1
pub returns : goal.returns
unfolding month_day
returns c = rw c.days_lacking.ensures.0
