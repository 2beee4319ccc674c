-- `words::units::put_units` meets its contract.
use mathlib.Core.Path.{sym, ◌∙◌}
use native.Mathlib.Omega.{arith}
use borrow.Author.Rules.{rules}
use Rattle.std.specs.Slice.Iter.{chunks_exact_rest}
use Rattle.page.proofs.PageLaws.{nothing}
use Rattle.words.proofs.UnitLaws.{unit-put, no-unit}
use Rattle.words.proofs.units.put_units.Goals as goal

pub loop-unit-preserved : goal.loop-unit-preserved
loop-unit-preserved c =
    let next = c.in-Some.ensures.steps in
    let i = c.loop-unit.invariant in
    record {
      two = next.0 ∙ i.two;
      size = search rules;
      left = unit-put _ c.in-Some.unit.now _ next.1.0 (next.1.1 ∙ i.two) c.put_unit-page.ensures ∙ i.left;
    }

pub returns : goal.returns
returns c =
    let i = c.loop-unit.invariant in
    sym (nothing c.loop-unit.page i.size) ∙ rw (no-unit (chunks_exact_rest c.loop-unit.unit-iterator) (omega (arith, c.in-None.ensures.steps.1.0, i.two))) at i.left
