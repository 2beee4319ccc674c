-- The rules before the index are stored, and the place has come as many rules on.
use Rattle.std.proofs.Common.{◌≡◌}
use Rattle.struct_slices.specs.Loaded.{times}
use Rattle.struct_slices.proofs.Stored.{stored}
use Rattle.definition.specs.Places.{next_kept, rule_from}
use Rattle.definition_rows.proofs.reading.load.Given as goal

abbrev pub invariant-loop-rule : goal.invariant-loop-rule
invariant-loop-rule l =
    (l.at ≡ times (next_kept l.bytes) l.rule-index l.initial.at)
    × (l.rule-items ≡ stored (λ i. rule_from l.bytes (times (next_kept l.bytes) i l.initial.at)) l.initial.rule-items l.rule-index)
