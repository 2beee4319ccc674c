-- `records::registry::put_registry` meets its contract: the room, then the bytes.
use mathlib.Core.Path.{refl, ap, ◌∙◌}
use Rattle.refusal.specs.Outcome.{answered}
use Rattle.little_endian.specs.Stored.{stored}
use Rattle.zone.specs.Rules.{normal_rule}
use Rattle.zone.specs.declared.rules.Rule.{Rule}
use Rattle.records.specs.Layout.{rule_field_bytes}
use Rattle.records.proofs.registry.AnswerLaws.{write-short, write_done}
use Rattle.records.proofs.layout.PutLaws.{length_fields}
use Rattle.records.proofs.registry.put_registry.Goals as goal

pub returns-then-out-lt44 : goal.returns-then-out-lt44
returns-then-out-lt44 c =
    let a = c.args in
    let p = write-short (answered tt) (rule_field_bytes (normal_rule a.rule)) a.out.now refl (length_fields (normal_rule a.rule)) c.if-out-lt44.true in
    record { result_value = p.0; out_after = p.1 }

pub returns : goal.returns
returns c =
    let a = c.args in
    let p = write_done (answered tt) (rule_field_bytes (normal_rule a.rule)) a.out.now refl (length_fields (normal_rule a.rule)) c.if-out-lt44.false
    (c.put_rule_fields.ensures ∙ ap (λ (m : Rule). stored a.out.now 0 (rule_field_bytes m)) c.normal_rule.ensures) in
    record { result_value = p.0; out_after = p.1 }
