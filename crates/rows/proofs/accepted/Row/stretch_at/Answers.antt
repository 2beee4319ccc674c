-- `rows::accepted::Row::stretch_at` meets its contract: the stretch under the rule in force in the tick's year, and a tick of the window has a year of the window.
use Rattle.std.proofs.Common.{sym, arith}
use Rattle.in_force.proofs.shown.WindowLaws.{in_window}
use Rattle.rows.specs.Stretches.{stretch_at}
use Rattle.rows.proofs.accepted.Row.stretch_at.Goals as goal

pub stretch_in_year-requires : goal.stretch_in_year-requires
stretch_in_year-requires c =
    let w = in_window _ c.requires.0 c.requires.1 in
    (omega (arith, w.0, c.year_of-year.ensures), omega (arith, w.1, c.year_of-year.ensures), sym c.year_of-year.ensures)

pub overflow_add-year : goal.overflow_add-year
overflow_add-year c = omega (arith, (in_window _ c.requires.0 c.requires.1).1, c.year_of-year.ensures)

pub year_start-requires : goal.year_start-requires
year_start-requires c =
    let w = in_window _ c.requires.0 c.requires.1 in
    (omega (arith, w.0, c.year_of-year.ensures), omega (arith, w.1, c.year_of-year.ensures))

pub returns-in-Some : goal.returns-in-Some
unfolding stretch_at
returns-in-Some c = rw (← c.year_of-year.ensures, ← c.rule_in_force.ensures, c.in-Some.is) (rw c.year_of-year.ensures at c.stretch_in_year.ensures)

pub returns-in-None : goal.returns-in-None
unfolding stretch_at
returns-in-None c =
    let none = rw (c.in-None.is, c.year_of-year.ensures) at c.rule_in_force.ensures in
    rw (c.year_start.ensures.0, c.year_of-year.ensures, ← none)
