-- `table_calendar::years::year_in_cycle` meets its contract: the year at the day's place, and the days since its start.
use native.Mathlib.Omega.{arith}
use Rattle.table_calendar.proofs.table.Entries.{entry}
use Rattle.table_calendar.proofs.years.Places.{year-at}
use Rattle.table_calendar.proofs.years.year_in_cycle.Goals as goal

pub overflow_sub-result : goal.overflow_sub-result
overflow_sub-result c =
    let p = c.place_in-place.ensures in
    rw c.table_lent-starts.ensures (omega (arith, entry c.place_in-place.result p.there, p.from))

pub returns : goal.returns
returns c =
    let p = c.place_in-place.ensures in
    year-at _ _ _ p (rw c.table_lent-starts.ensures (entry _ p.there))
