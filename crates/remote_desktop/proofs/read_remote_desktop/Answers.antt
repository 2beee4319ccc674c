-- `remote_desktop::read_remote_desktop` meets its contract: the length, the rule, and both names.
use Rattle.std.proofs.lemmas.Result.{err_from_is_err_and}
use Rattle.remote_desktop.proofs.AnswerLaws.{remote-size, remote-refused, remote-rule}
use Rattle.remote_desktop.proofs.read_remote_desktop.Goals as goal

pub returns-then-bytes-ne172-clause-rule : goal.returns-then-bytes-ne172-clause-rule
returns-then-bytes-ne172-clause-rule c = remote-size _ c.if-bytes-ne172.true

pub returns-in_err-check_dates-clause-rule : goal.returns-in_err-check_dates-clause-rule
returns-in_err-check_dates-clause-rule c =
    let p = err_from_is_err_and c.from_residual.result c.from_residual.ensures.1 in
    rw (p.1, p.2) (remote-refused _ _ _ c.if-bytes-ne172.false c.remote_rule-rule.ensures c.in_err-check_dates.ensures)

pub returns-clause-rule : goal.returns-clause-rule
returns-clause-rule c =
    (remote-rule _ _ _ _ _ c.if-bytes-ne172.false c.remote_rule-rule.ensures c.in_ok-check_dates.ensures c.normal_rule.ensures c.name_at-standard_name.ensures c.name_at-daylight_name.ensures).0

pub returns-clause-names : goal.returns-clause-names
returns-clause-names c =
    (remote-rule _ _ _ _ _ c.if-bytes-ne172.false c.remote_rule-rule.ensures c.in_ok-check_dates.ensures c.normal_rule.ensures c.name_at-standard_name.ensures c.name_at-daylight_name.ensures).1
