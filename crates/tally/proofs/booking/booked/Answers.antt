-- `tally::booking::booked` meets its contract: the row's checks, the run's, and the walk.
use Rattle.std.proofs.Common.{ap}
use Rattle.std.proofs.lemmas.Result.{err_from_is_err_and}
use Rattle.tally.specs.declared.booking.Walk.{Walk}
use Rattle.tally.specs.Booking.{book}
use Rattle.tally.proofs.BookingLaws.{begins, run-refused, run-booked}
use Rattle.tally.proofs.booking.booked.Goals as goal

pub returns-in_err-accepted : goal.returns-in_err-accepted
unfolding book
returns-in_err-accepted c =
    let p = err_from_is_err_and c.from_residual.result c.from_residual.ensures.1 in
    rw (p.1, p.2, c.in_err-accepted.ensures.refusal)

pub returns-in_err-check_run : goal.returns-in_err-check_run
returns-in_err-check_run c =
    let p = err_from_is_err_and c.from_residual-in_err-check_run.result c.from_residual-in_err-check_run.ensures.1 in
    let same = c.in_ok-accepted.ensures.row in
    rw (p.1, p.2) (run-refused c.args.row.now c.args.booking (rw same at c.in_ok-accepted.accepted.accepted) _ (rw same at c.in_err-check_run.ensures))

pub walk_on-walk-requires : goal.walk_on-walk-requires
walk_on-walk-requires c = rw c.begin.ensures (begins c.args.row.now c.args.booking (rw c.in_ok-accepted.ensures.row at c.in_ok-check_run.ensures))

pub returns : goal.returns
returns c =
    let same = c.in_ok-accepted.ensures.row in
    let walk = rw (same, c.begin.ensures) at c.walk_on-walk.ensures in
    run-booked c.args.row.now c.args.booking (rw same at c.in_ok-accepted.accepted.accepted) _ (rw same at c.in_ok-check_run.ensures) (ap (λ (w : Walk). w.totals) walk)
