-- `table_calendar::years::place_in` meets its contract: the later place where its year has begun, or else the earlier one.
use Rattle.table_calendar.proofs.years.Places.{late, early}
use Rattle.table_calendar.proofs.years.place_in.Goals as goal

pub returns-then-starts-late : goal.returns-then-starts-late
returns-then-starts-late c = late _ _ _ c.requires c.min-late.ensures c.if-starts-late.true

pub returns-else-starts-late : goal.returns-else-starts-late
returns-else-starts-late c = early _ _ _ c.requires c.min-late.ensures c.if-starts-late.false
