-- `table_calendar::table::table_lent` meets its contract: the table is the rule, computed.
use mathlib.Core.Path.{refl}
use Rattle.days.specs.Years.{leap, days_in_year}
use Rattle.table_calendar.specs.Table.{starts_from, days_before_year}
use Rattle.table_calendar.proofs.table.table_lent.Goals as goal

pub returns : goal.returns
unfolding days_before_year starts_from leap days_in_year
returns c = refl
