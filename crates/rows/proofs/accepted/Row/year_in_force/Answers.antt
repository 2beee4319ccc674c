-- `rows::accepted::Row::year_in_force` meets its contract: the year under its rule in force.
use Rattle.rows.specs.Years.{year_in_force}
use Rattle.rows.proofs.accepted.Row.year_in_force.Goals as goal

pub returns-in-Some : goal.returns-in-Some
unfolding year_in_force
returns-in-Some c = rw (← c.rule_in_force.ensures, c.in-Some.is) c.year_bias.ensures

pub returns-in-None : goal.returns-in-None
unfolding year_in_force
returns-in-None c = rw (← c.rule_in_force.ensures, c.in-None.is)
