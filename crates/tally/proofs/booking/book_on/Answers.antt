-- `tally::booking::book_on` meets its contract: the outcome, beside the tally as it was where that is a refusal, and so what the steps answer.
use Rattle.refusal.proofs.Numbers.{number-back}
use Rattle.tally.proofs.BookingLaws.{on-is}
use Rattle.tally.proofs.booking.book_on.Goals as goal

pub returns-in-Ok-clause-outcome : goal.returns-in-Ok-clause-outcome
returns-in-Ok-clause-outcome c = rw (← c.in-Ok.ensures)

pub returns-in-Ok-clause-steps : goal.returns-in-Ok-clause-steps
returns-in-Ok-clause-steps c = rw (on-is c.args.row.now c.args.booking, ← c.in-Ok.ensures)

pub returns-in-Err-clause-outcome : goal.returns-in-Err-clause-outcome
returns-in-Err-clause-outcome c = rw (← c.in-Err.ensures, number-back c.in-Err.why)

pub returns-in-Err-clause-steps : goal.returns-in-Err-clause-steps
returns-in-Err-clause-steps c = rw (on-is c.args.row.now c.args.booking, ← c.in-Err.ensures, number-back c.in-Err.why)
