-- `zone::dates::normal_date` meets its contract, case by case.
use borrow.Author.Tests.{eq-eqb}
use Rattle.refusal.proofs.Tests.{tests}
use Rattle.zone.specs.Dates.{normal_date}
use Rattle.zone.proofs.dates.normal_date.Goals as goal

pub returns-then-date-eq0 : goal.returns-then-date-eq0
unfolding normal_date
returns-then-date-eq0 c = rw (eq-eqb _ 0 c.if-date-eq0.true) c.no_date.ensures

pub returns-then-date-eq0-2 : goal.returns-then-date-eq0-2
unfolding normal_date
returns-then-date-eq0-2 c = search tests

pub returns : goal.returns
unfolding normal_date
returns c = search tests
