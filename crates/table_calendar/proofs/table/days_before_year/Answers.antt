-- `table_calendar::table::days_before_year` meets its contract: each of the 400 entries is where its year starts by the leap-year rule, one test over the whole table that antt computes.
use mathlib.Core.Path.{refl}
use Rattle.days.specs.Years.{leap, days_in_year}
use Rattle.table_calendar.specs.Table.{starts_from, days_before_year}
use Rattle.table_calendar.proofs.table.days_before_year.Goals as goal

pub returns : goal.returns
unfolding days_before_year starts_from leap days_in_year
returns c = refl
