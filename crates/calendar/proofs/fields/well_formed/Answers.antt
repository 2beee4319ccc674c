-- `calendar::fields::well_formed` meets its contract: the tests are joined as the definition joins them.
use Rattle.calendar.specs.Steps.{is_formed}
use Rattle.calendar.proofs.fields.well_formed.Goals as goal

pub returns : goal.returns
unfolding is_formed
returns c =
    let c6 = c in
    let c5 = c6 in
    let c4 = c5 in
    let c3 = c4 in
    let c2 = c3 in
    rw (c.is_second.ensures, c6.is_millisecond.ensures, c5.is_minute.ensures, c4.is_hour.ensures, c3.is_day.ensures, c2.is_month.ensures, c2.is_year.ensures)
