-- `definition::places::first_kept` meets its contract: a rule of another major hands on to the next.
use mathlib.Core.Path.{sym, ap, ◌∙◌}
use native.Mathlib.Omega.{arith}
use borrow.Author.Tests.{eq-eqb, ne_eqb}
use Rattle.little_endian.proofs.FieldLaws.{byte-field}
use Rattle.definition.specs.Places.{first_kept}
use Rattle.definition.proofs.places.First.{first-end, first-here, first-later}
use Rattle.definition.proofs.places.first_kept.Goals as goal

pub loop-place-preserved : goal.loop-place-preserved
loop-place-preserved c =
    let l = c.loop-place in
    let s = c.args.bytes.now in
    l.invariant
    ∙ first-later s l.place c.if-place-bytes.true (rw (byte-field s l.place c.loop-place-test.true) (ne_eqb _ 2 c.if-bytes-place-ne2.true))
    ∙ ap (first_kept s) (sym c.after_rule-place.ensures)

pub returns-else-bytes-place-ne2 : goal.returns-else-bytes-place-ne2
returns-else-bytes-place-ne2 c =
    let l = c.loop-place in
    let s = c.args.bytes.now in
    sym
    (l.invariant ∙ first-here s l.place c.if-place-bytes.true (rw (byte-field s l.place c.loop-place-test.true) (eq-eqb _ 2 c.if-bytes-place-ne2.false)))

pub returns-else-place-bytes : goal.returns-else-place-bytes
returns-else-place-bytes c =
    let l = c.loop-place in
    sym (l.invariant ∙ first-end c.args.bytes.now l.place c.if-place-bytes.false)

pub returns-after-loop-place : goal.returns-after-loop-place
returns-after-loop-place c =
    let l = c.loop-place in
    sym (l.invariant ∙ first-end c.args.bytes.now l.place (omega arith))
