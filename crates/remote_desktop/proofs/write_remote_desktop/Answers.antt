-- `remote_desktop::write_remote_desktop` meets its contract: the check, the room, then the bytes.
use mathlib.Core.Path.{sym, ap, ◌∙◌}
use Rattle.std.specs.Prelude.{None}
use Rattle.std.proofs.lemmas.Result.{err_from_is_err_and}
use Rattle.little_endian.specs.Stored.{stored}
use Rattle.zone.specs.Rules.{check_rule, normal_rule}
use Rattle.zone.specs.declared.rules.Rule.{Rule}
use Rattle.remote_desktop.specs.RemoteDesktop.{remote_bytes, write_remote_desktop}
use Rattle.records.proofs.registry.AnswerLaws.{write-refused, write-short, write_done}
use Rattle.remote_desktop.proofs.PutLaws.{length-remote}
use Rattle.remote_desktop.proofs.write_remote_desktop.Goals as goal

pub returns-then-out-lt172 : goal.returns-then-out-lt172
unfolding write_remote_desktop
returns-then-out-lt172 c =
    let a = c.args in
    let p = write-short (check_rule None a.rule) (remote_bytes (normal_rule a.rule) a.standard_name a.daylight_name) a.out.now (sym c.in_ok-check_rule.ensures) (length-remote (normal_rule a.rule) a.standard_name a.daylight_name c.well_formed.1.0.1.0.1 c.well_formed.1.1.0.1.0.1) c.if-out-lt172.true in
    record { result_value = p.0; out_after = p.1 }

pub returns-in_err-check_rule : goal.returns-in_err-check_rule
unfolding write_remote_desktop
returns-in_err-check_rule c =
    let a = c.args in
    let e = err_from_is_err_and c.from_residual.result c.from_residual.ensures.1 in
    let p = write-refused (check_rule None a.rule) (remote_bytes (normal_rule a.rule) a.standard_name a.daylight_name) a.out.now (sym c.in_err-check_rule.ensures) in
    record { result_value = rw (e.1, e.2) p.0; out_after = p.1 }

pub returns : goal.returns
unfolding write_remote_desktop
returns c =
    let a = c.args in
    let p = write_done (check_rule None a.rule) (remote_bytes (normal_rule a.rule) a.standard_name a.daylight_name) a.out.now (sym c.in_ok-check_rule.ensures) (length-remote (normal_rule a.rule) a.standard_name a.daylight_name c.well_formed.1.0.1.0.1 c.well_formed.1.1.0.1.0.1) c.if-out-lt172.false
    (c.put_remote.ensures ∙ ap (λ (m : Rule). stored a.out.now 0 (remote_bytes m a.standard_name a.daylight_name)) c.normal_rule.ensures) in
    record { result_value = p.0; out_after = p.1 }
