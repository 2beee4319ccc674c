-- `words::rules::put_biases` meets its contract, by whether the dates are set.
use mir.ValLaws.{to_z-of_z}
use mir.Val.{SFits}
use mir.Syntax.{w32, w64}
use borrow.Author.Tests.{eq-eqb, ne_eqb}
use Rattle.zone.proofs.biases.SumLaws.{held, sum_fits}
use Rattle.page.proofs.PageLaws.{both}
use Rattle.words.specs.Rules.{biases_text}
use borrow.Author.Rules.{rules}
use Rattle.words.proofs.rules.put_biases.Goals as goal

pub returns-then-standard-eq0 : goal.returns-then-standard-eq0
unfolding biases_text
returns-then-standard-eq0 c =
    let fits : SFits w32 c.args.rule.bias = search rules in
    rw (eq-eqb _ 0 c.if-standard-eq0.true)
    (both _ _ _
    (both _ _ _ c.put.ensures (rw (held _ fits) at c.put_bias.ensures))
    c.put-then-standard-eq0.ensures)

pub returns : goal.returns
unfolding biases_text
returns c =
    let r = c.args.rule in
    let b : SFits w32 r.bias = search rules in
    let s : SFits w32 r.standard_bias = search rules in
    let d : SFits w32 r.daylight_bias = search rules in
    let standard = rw (to_z-of_z w32 _ b, to_z-of_z w32 _ s) at c.sum.ensures in
    let daylight = rw (to_z-of_z w32 _ b, to_z-of_z w32 _ d) at c.sum-2.ensures in
    rw (ne_eqb _ 0 c.if-standard-eq0.false)
    (both _ _ _
    (rw (standard, to_z-of_z w64 _ (sum_fits _ _ b s)) at c.put_half-page.ensures)
    (rw (daylight, to_z-of_z w64 _ (sum_fits _ _ b d)) at c.put_half.ensures))
