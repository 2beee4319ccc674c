-- `zone::rules::normal_rule` meets its contract, date by date.
use Rattle.zone.specs.Rules.{normal_rule}
use Rattle.zone.proofs.rules.normal_rule.Goals as goal

pub returns : goal.returns
unfolding normal_rule
returns c = simp (← c.normal_date-daylight.ensures, ← c.normal_date-standard.ensures)
