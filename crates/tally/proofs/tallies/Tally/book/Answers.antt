-- `tally::tallies::Tally::book` meets its contract, by a law.
use Rattle.std.proofs.Common.{ap, ◌∙◌}
use Rattle.tally.specs.declared.tallies.Answer.{Answer}
use Rattle.tally.specs.Answers.{of_tally}
use Rattle.tally.proofs.BookingLaws.{book-is}
use Rattle.tally.proofs.tallies.Tally.book.Goals as goal

pub returns : goal.returns
returns c =
    let e = rw c.ask-booking.ensures at c.book_on.ensures.steps in
    let s = book-is c.args.row.now c.args.self c.args.from c.args.to in
    (ap of_tally e ∙ s.answer, ap (λ (y : Answer). y.tally) e ∙ s.tally)
