-- `days::ticks::year_start` meets its contract, and stays within the years that a TIME can show.
use native.Mathlib.Omega.{arith}
use Rattle.days.proofs.ticks.YearTicks.{tick-small}
use Rattle.days.proofs.ticks.year_start.Goals as goal

pub returns : goal.returns
returns c =
    let b = c in
    let e = c.days_of_years.ensures.0 in
    (rw e, omega (arith, e, tick-small b.args.year b.requires.1))
