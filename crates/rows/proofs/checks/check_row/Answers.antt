-- `rows::checks::check_row` meets its contract: the count, then rule after rule, then the marks.
use Rattle.std.proofs.Common.{sym, ◌∙◌, rules}
use borrow.Author.Tests.{eq-eqb, ne_eqb}
use Rattle.std.proofs.lemmas.Result.{err_from_is_err_and}
use Rattle.zone.specs.Rules.{no_rule}
use Rattle.rows.specs.Row.{check_row}
use Rattle.rows.proofs.CheckLaws.{none-checked, rule-refused, rule-passed, all-passed}
use Rattle.rows.proofs.checks.check_row.Goals as goal

pub returns-then-not-is_count : goal.returns-then-not-is_count
unfolding check_row
returns-then-not-is_count c = rw (← c.if-not-is_count.ensures)

pub loop-rule-init : goal.loop-rule-init
loop-rule-init c = record { few = search rules; left = none-checked c.args.row.now c.if-not-is_count.ensures }

pub returns-in_err-check_in_row : goal.returns-in_err-check_in_row
returns-in_err-check_in_row c =
    let p = err_from_is_err_and c.from_residual.result c.from_residual.ensures.1 in
    rw (p.1, p.2) (rule-refused c.args.row.now _ _ _ _ c.loop-rule.invariant.left (search rules) _ c.in_err-check_in_row.ensures)

pub loop-rule-preserved : goal.loop-rule-preserved
loop-rule-preserved c =
    record {
      few = search rules;
      left = rw c.from-active.ensures (rule-passed c.args.row.now _ _ _ _ c.loop-rule.invariant.left (search rules) c.in_ok-check_in_row.ensures);
    }

pub returns-then-active-ne1 : goal.returns-then-active-ne1
returns-then-active-ne1 c = sym (all-passed c.args.row.now _ _ _ no_rule c.loop-rule.invariant.left (search rules) ∙ rw (ne_eqb _ _ c.if-active-ne1.true))

pub returns : goal.returns
returns c = sym (all-passed c.args.row.now _ _ _ no_rule c.loop-rule.invariant.left (search rules) ∙ rw (eq-eqb _ _ c.if-active-ne1.false))
