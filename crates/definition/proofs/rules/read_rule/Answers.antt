-- `definition::rules::read_rule` meets its contract: each way out is one law of `Ways`.
use mathlib.Core.Path.{sym}
use Rattle.std.proofs.lemmas.Result.{err_from_is_err_and}
use Rattle.refusal.proofs.Tests.{failed, passed}
use Rattle.definition.proofs.rules.Ways.{wrong_size, not-zero, not_sound, sound}
use Rattle.definition.proofs.rules.read_rule.Goals as goal

pub returns-then-not-size_ok : goal.returns-then-not-size_ok
returns-then-not-size_ok c =
    wrong_size c.args.bytes.now c.args.at c.args.minor c.args.size c.args.before
    (failed c.size_ok.ensures c.if-not-size_ok.true)

pub returns-then-not-unused_zero : goal.returns-then-not-unused_zero
returns-then-not-unused_zero c =
    not-zero c.args.bytes.now c.args.at c.args.minor c.args.size c.args.before
    (passed c.size_ok.ensures c.if-not-size_ok.false) (failed c.unused_zero.ensures c.if-not-unused_zero.true)

pub returns-in_err-check_rule : goal.returns-in_err-check_rule
returns-in_err-check_rule c =
    let p = err_from_is_err_and c.from_residual.result c.from_residual.ensures.1 in
    rw (p.1, p.2)
    (not_sound c.args.bytes.now c.args.at c.args.minor c.args.size c.args.before
    (passed c.size_ok.ensures c.if-not-size_ok.false) (passed c.unused_zero.ensures c.if-not-unused_zero.false) _ c.rule_in-found.ensures
    (sym c.in_err-check_rule.ensures))

pub returns : goal.returns
returns c =
    rw c.bits_agree-agree.ensures
    (sound c.args.bytes.now c.args.at c.args.minor c.args.size c.args.before
    (passed c.size_ok.ensures c.if-not-size_ok.false) (passed c.unused_zero.ensures c.if-not-unused_zero.false) _ c.rule_in-found.ensures
    _ _ (sym c.in_ok-check_rule.ensures) c.normal_rule-rule.ensures c.read.ensures)
