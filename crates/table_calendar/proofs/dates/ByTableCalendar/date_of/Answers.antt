-- `table_calendar::dates::ByTable::date_of` meets its contract: the date of a day of its year.
use Rattle.days.proofs.dates.DateOf.{day-within}
use Rattle.table_calendar.proofs.dates.ByTableCalendar.date_of.Goals as goal

pub date_in_year-requires : goal.date_in_year-requires
date_in_year-requires c = day-within _ _ c.year_by_table.ensures
