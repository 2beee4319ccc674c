-- `zone::rules::biases_ok` meets its contract, by whether the dates are set.
use borrow.Author.Rules.{rules}
use mir.ValLaws.{to_z-of_z}
use mir.Val.{SFits}
use mir.Syntax.{w32}
use borrow.Author.Tests.{eq-eqb, ne_eqb}
use Rattle.zone.specs.Rules.{biases_ok}
use Rattle.zone.proofs.biases.SumLaws.{held}
use Rattle.zone.proofs.rules.biases_ok.Goals as goal

pub returns-then-standard-eq0 : goal.returns-then-standard-eq0
unfolding biases_ok
returns-then-standard-eq0 c =
    let fits : SFits w32 c.args.rule.bias = search rules in
    let e = held _ fits in
    rw (eq-eqb _ 0 c.if-standard-eq0.true) (rw e at c.in_bias_range.ensures)

pub returns : goal.returns
unfolding biases_ok
returns c =
    let r = c.args.rule in
    let fits : SFits w32 c.args.rule.bias = search rules in
    let standard : SFits w32 c.args.rule.standard_bias = search rules in
    let daylight : SFits w32 c.args.rule.daylight_bias = search rules in
    let e = to_z-of_z w32 r.bias fits in
    let f = to_z-of_z w32 r.standard_bias standard in
    let h = to_z-of_z w32 r.daylight_bias daylight in
    rw (ne_eqb _ 0 c.if-standard-eq0.false, ← (rw (e, f) at c.sum_in_range.ensures), ← (rw (e, h) at c.sum_in_range-2.ensures))
