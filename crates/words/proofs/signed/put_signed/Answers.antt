-- `words::signed::put_signed` meets its contract, by the number's sign.
use mathlib.Core.Path.{ap, ◌∙◌}
use mir.Syntax.{w64}
use mir.Facts.{to_z-of_z}
use Rattle.calendar.proofs.signed.Signs.{taken, left}
use Rattle.page.specs.Pages.{text_of, extended}
use Rattle.page.proofs.PageLaws.{both}
use Rattle.words.proofs.SignedLaws.{below-zero, from_zero}
use Rattle.words.proofs.signed.put_signed.Goals as goal

pub returns-then-number-lt0 : goal.returns-then-number-lt0
returns-then-number-lt0 c =
    let z = c.args.number in
    both _ _ _ c.put.ensures c.put_decimal.ensures
    ∙ ap (extended (text_of c.args.page)) (below-zero z (rw (to_z-of_z c.ranges.number) at c.unsigned_abs-distance.ensures.value) (taken w64 z c.ranges.number c.if-number-lt0.true))

pub returns : goal.returns
returns c =
    let z = c.args.number in
    c.put_decimal-2.ensures
    ∙ ap (extended (text_of c.args.page)) (from_zero z (rw (to_z-of_z c.ranges.number) at c.unsigned_abs-distance.ensures.value) (left w64 z c.ranges.number c.if-number-lt0.false))
