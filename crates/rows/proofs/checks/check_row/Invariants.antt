-- What the rules that are left come to is what the row comes to.
use Rattle.std.specs.Prelude.{◌≡◌, ◌≤◌, drop}
use Rattle.rows.specs.Row.{check_row}
use Rattle.rows.proofs.CheckLaws.{left_to_check}
use Rattle.rows.proofs.checks.check_row.Given as goal

abbrev pub invariant-loop-rule : goal.invariant-loop-rule
invariant-loop-rule l =
    record {
      few : l.active ≤ l.rule-index;
      left : check_row l.row ≡ left_to_check l.before l.active (drop l.rule-index l.row);
    }
