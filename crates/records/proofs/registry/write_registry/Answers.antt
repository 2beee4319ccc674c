-- `records::registry::write_registry` meets its contract: the check, which a usual rule passes at once, then the writing.
use mathlib.Core.Path.{sym, ◌∙◌}
use Rattle.std.specs.Prelude.{None}
use Rattle.std.proofs.lemmas.Result.{err_from_is_err_and}
use Rattle.zone.specs.Rules.{check_rule, normal_rule}
use Rattle.zone.proofs.rules.Sound.{usual-passes}
use Rattle.records.specs.Registry.{write_registry}
use Rattle.records.specs.Layout.{rule_field_bytes}
use Rattle.records.proofs.registry.AnswerLaws.{write-refused, write-passed}
use Rattle.records.proofs.registry.write_registry.Goals as goal

pub returns-then-is_usual : goal.returns-then-is_usual
unfolding write_registry
returns-then-is_usual c =
    let a = c.args in
    let p = write-passed (check_rule None a.rule) (rule_field_bytes (normal_rule a.rule)) a.out.now (usual-passes None _ (sym c.is_usual.ensures ∙ c.if-is_usual.true)) (c.put_registry.ensures.result_value, c.put_registry.ensures.out_after) in
    record { result_value = p.0; out_after = p.1 }

pub returns-in_err-check_rule : goal.returns-in_err-check_rule
unfolding write_registry
returns-in_err-check_rule c =
    let a = c.args in
    let e = err_from_is_err_and c.from_residual.result c.from_residual.ensures.1 in
    let p = write-refused (check_rule None a.rule) (rule_field_bytes (normal_rule a.rule)) a.out.now (sym c.in_err-check_rule.ensures) in
    record { result_value = rw (e.1, e.2) p.0; out_after = p.1 }

pub returns : goal.returns
unfolding write_registry
returns c =
    let a = c.args in
    let q = c.put_registry-2.ensures in
    let p = write-passed (check_rule None a.rule) (rule_field_bytes (normal_rule a.rule)) a.out.now (sym c.in_ok-check_rule.ensures) (q.result_value, q.out_after) in
    record { result_value = p.0; out_after = p.1 }
