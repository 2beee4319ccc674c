-- `table_calendar::years::year_by_table` meets its contract: the year of a day of the first cycle, and 400 years for each cycle before.
use native.Mathlib.Omega.{arith}
use Rattle.table_calendar.proofs.years.Cycles.{year-small, year-is}
use Rattle.table_calendar.proofs.years.year_by_table.Goals as goal

pub overflow_add-result : goal.overflow_add-result
overflow_add-result c = let x = c in omega (arith, year-small x.args.days _ x.year_in_cycle-x.ensures)

pub returns : goal.returns
returns c = year-is _ _ c.year_in_cycle-x.ensures
