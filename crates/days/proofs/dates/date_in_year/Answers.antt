-- `days::dates::date_in_year` meets its contract: the month by one division is the walk over months.
use Rattle.days.proofs.dates.DateOf.{day-small, date-by}
use Rattle.days.proofs.dates.date_in_year.Goals as goal

pub month_day-p-requires : goal.month_day-p-requires
month_day-p-requires c = day-small c.args.x c.requires

pub returns : goal.returns
returns c = date-by _ _ _ c.requires c.leap_year.ensures c.month_day-p.ensures
