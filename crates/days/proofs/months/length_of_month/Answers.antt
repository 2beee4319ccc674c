-- `days::months::length_of_month` meets its contract, by whether the month is February.
use Rattle.days.proofs.months.Lengths.{february, long-or-short}
use Rattle.days.proofs.months.length_of_month.Goals as goal

pub returns-then-month-eq2 : goal.returns-then-month-eq2
returns-then-month-eq2 c = λ y q. rw (c.if-month-eq2.true, c.february_lacks.ensures) (february y _ q)

pub returns : goal.returns
returns c =
    let s = c in
    λ y q. long-or-short y s.args.month s.requires.0 s.requires.1 c.if-month-eq2.false
