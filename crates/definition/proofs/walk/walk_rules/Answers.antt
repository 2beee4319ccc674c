-- `definition::walk::walk_rules` meets its contract: the rules that are left decide.
use Rattle.std.proofs.Common.{sym, ◌∙◌, arith}
use Rattle.std.proofs.lemmas.Result.{err_from_is_err_and}
use Rattle.definition.proofs.walk.Known.{grown}
use Rattle.definition.proofs.walk.Joined.{loop-start, loop-step, loop-end}
use Rattle.definition.proofs.walk.walk_rules.Goals as goal

pub loop-init : goal.loop-init
loop-init c = record { at = c.requires.0; kept = omega arith; active = omega arith; left = loop-start _ _ _ }

pub walk_one-requires : goal.walk_one-requires
walk_one-requires c =
    let inv = c.loop.invariant in
    (inv.at, omega (arith, inv.kept), omega (arith, inv.active))

pub returns-in_err-w : goal.returns-in_err-w
returns-in_err-w c =
    let p = err_from_is_err_and c.from_residual.result c.from_residual.ensures.1 in
    rw (p.1, p.2, c.loop.invariant.left, loop-step c.args.bytes.now c.args.count c.loop.counter c.loop.w c.loop-test.true, ← c.in_err-w.ensures)

pub loop-preserved : goal.loop-preserved
loop-preserved c =
    let l = c.loop in
    let inv = l.invariant in
    let g = grown c.args.bytes.now l.w c.in_ok-w.w (sym c.in_ok-w.ensures) in
    record {
      at = g.at;
      kept = omega (arith, g.kept, inv.kept);
      active = omega (arith, g.active, inv.active);
      left = inv.left ∙ loop-step c.args.bytes.now c.args.count l.counter l.w c.loop-test.true ∙ rw (← c.in_ok-w.ensures);
    }

pub returns : goal.returns
returns c = sym (c.loop.invariant.left ∙ loop-end c.args.bytes.now c.args.count c.loop.counter c.loop.w c.loop-test.false)
