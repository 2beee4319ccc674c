-- The rules before the index are written: the others, put from the place on, make up the whole.
use Rattle.std.proofs.Common.{◌≡◌, ◌+◌, ◌*◌, drop}
use Rattle.little_endian.specs.Stored.{stored}
use Rattle.definition.specs.Definition.{rules_bytes}
use Rattle.definition_rows.proofs.writing.put_rules.Given as goal

abbrev pub invariant-loop-rule : goal.invariant-loop-rule
invariant-loop-rule l =
    record {
      place : l.at ≡ l.initial.at + 66 * l.rule-index;
      left : stored l.out l.at (rules_bytes (drop l.rule-index l.row)) ≡ stored l.initial.out l.initial.at (rules_bytes l.row);
    }
