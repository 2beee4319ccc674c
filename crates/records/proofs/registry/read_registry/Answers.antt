-- `records::registry::read_registry` meets its contract: the length, then the rule, which passes at once where it is a usual one.
use mathlib.Core.Path.{◌≡◌, sym, ap, ◌∙◌}
use lib.ListN.{length}
use native.Mathlib.Omega.{arith}
use borrow.Author.Tests.{eq-eqb, ne_eqb}
use Rattle.std.proofs.lemmas.Result.{err_from_is_err_and}
use Rattle.refusal.specs.Outcome.{answered}
use Rattle.zone.proofs.rules.Sound.{usual-dates-pass}
use Rattle.records.specs.Registry.{read_registry}
use Rattle.records.proofs.registry.read_registry.Goals as goal

pub returns-then-bytes-ne44 : goal.returns-then-bytes-ne44
unfolding read_registry
returns-then-bytes-ne44 c = rw (ne_eqb _ 44 c.if-bytes-ne44.true)

pub returns-then-is_sound_usual : goal.returns-then-is_sound_usual
unfolding read_registry
returns-then-is_sound_usual c =
    let size : length c.args.bytes.now ≡ 44 = omega arith in
    rw (eq-eqb _ 44 size, ← c.rule_at-rule.ensures, usual-dates-pass _ (sym c.is_sound_usual.ensures ∙ c.if-is_sound_usual.true)) (ap answered c.normal_rule.ensures)

pub returns-in_err-check_dates : goal.returns-in_err-check_dates
unfolding read_registry
returns-in_err-check_dates c =
    let p = err_from_is_err_and c.from_residual.result c.from_residual.ensures.1 in
    let size : length c.args.bytes.now ≡ 44 = omega arith in
    rw (p.1, p.2, eq-eqb _ 44 size, ← c.rule_at-rule.ensures, ← c.in_err-check_dates.ensures)

pub returns : goal.returns
unfolding read_registry
returns c =
    let size : length c.args.bytes.now ≡ 44 = omega arith in
    rw (eq-eqb _ 44 size, ← c.rule_at-rule.ensures, ← c.in_ok-check_dates.ensures) (ap answered c.normal_rule-2.ensures)
