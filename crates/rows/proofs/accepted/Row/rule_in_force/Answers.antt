-- `rows::accepted::Row::rule_in_force` meets its contract: the rule in force of a checked row is checked.
use Rattle.rows.proofs.SearchLaws.{found-checked}
use Rattle.rows.proofs.accepted.Row.rule_in_force.Goals as goal

pub invariant_of-result : goal.invariant_of-result
invariant_of-result c = record { sound = rw (← c.in_ok-rule.ensures) at (found-checked c.args.self.rules.now c.args.year c.args.self.accepted) }
