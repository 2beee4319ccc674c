-- `reading::load` meets its contract: a store at each of the first n places, of the rule at the place of the bytes that has come as far.
use Rattle.std.proofs.Common.{◌≡◌, ℕ, ◌+◌, ◌<◌, ◌≤◌, List, ◌++◌, length, take, drop, arith, add-one, ap, refl, ◌∙◌, append-nil, length-take-le}
use lib.ListN.{drop_of_length-le}
use Rattle.struct_slices.specs.Loaded.{filled, times}
use Rattle.struct_slices.proofs.Stored.{stored, stored-front}
use Rattle.zone.specs.declared.rules.Rule.{Rule}
use Rattle.definition.specs.Places.{next_kept, rule_from}
use Rattle.definition_rows.proofs.reading.load.Goals as goal

pub loop-rule-init : goal.loop-rule-init
loop-rule-init c = (refl, refl)

pub rule_from-requires : goal.rule_from-requires
rule_from-requires c =
    let h : c.loop-rule.rule-index < c.args.n = omega (arith, length-take-le c.args.n c.args.row.now c.requires.0) in
    rw c.loop-rule.invariant.0 (c.requires.1.fits c.loop-rule.rule-index h)

pub next_kept-at-requires : goal.next_kept-at-requires
next_kept-at-requires c =
    let h : c.loop-rule.rule-index < c.args.n = omega (arith, length-take-le c.args.n c.args.row.now c.requires.0) in
    let fits : c.loop-rule.at + 66 ≤ length c.args.bytes.now = rw c.loop-rule.invariant.0 (c.requires.1.fits c.loop-rule.rule-index h) in
    omega (arith, fits)

pub loop-rule-preserved : goal.loop-rule-preserved
loop-rule-preserved c =
    let l = c.loop-rule in
    let inv = l.invariant in (
      rw (add-one l.rule-index) (c.next_kept-at.ensures ∙ ap (next_kept c.args.bytes.now) inv.0),
      rw (add-one l.rule-index, inv.1, c.rule_from.ensures, inv.0),
    )

pub returns : goal.returns
returns c =
    let row = c.args.row.now in
    let n = c.args.n in
    let f : ℕ → Rule = λ i. rule_from c.args.bytes.now (times (next_kept c.args.bytes.now) i c.args.at) in
    let size : length (take n row) ≡ n = length-take-le n row c.requires.0 in
    let all : c.loop-rule.rule-index ≡ n = omega arith in
    let e : c.loop-rule.rule-items ≡ filled f n =
    c.loop-rule.invariant.1 ∙ ap (stored f (take n row)) all ∙ stored-front f (take n row) n (omega arith) ∙ rw (drop_of_length-le (take n row) {i = n} (omega arith), append-nil)
    in
    ap (λ (l : List Rule). l ++ drop n row) e
