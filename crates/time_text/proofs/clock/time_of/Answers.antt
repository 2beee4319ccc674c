-- `time_text::clock::time_of` meets its contract: the revision, then the year, then the fields, then the fraction.
use mathlib.Core.Path.{◌∙◌}
use mir.Syntax.{w64}
use mir.Val.{SFits}
use mir.Facts.{to_z-of_z}
use borrow.Author.Rules.{rules}
use Rattle.std.proofs.lemmas.Result.{err_from_is_err_and}
use Rattle.time_text.proofs.clock.Meaning.{other-revision, late-year, fields-then}
use Rattle.time_text.proofs.clock.time_of.Goals as goal

pub returns-in_err-check_revision : goal.returns-in_err-check_revision
returns-in_err-check_revision c =
    let p = err_from_is_err_and c.from_residual.result c.from_residual.ensures.1 in
    rw (p.1, p.2) (other-revision _ _ _ _ c.in_err-check_revision.ensures)

pub returns-then-number_at-gt32767 : goal.returns-then-number_at-gt32767
returns-then-number_at-gt32767 c =
    late-year _ _ _ c.in_ok-check_revision.ensures (rw c.number_at.ensures.0 at c.if-number_at-gt32767.true)

pub returns-in_err-time : goal.returns-in_err-time
returns-in_err-time c =
    let p = err_from_is_err_and c.from_residual-in_err-time.result c.from_residual-in_err-time.ensures.1 in
    rw (p.1, p.2) (rw (← c.in_err-time.ensures) at (fields-then c.args.revision c.args.w c.args.s.now c.in_ok-check_revision.ensures c.fields_at.result c.fields_at.ensures (rw c.number_at.ensures.0 at c.if-number_at-gt32767.false)))

pub returns : goal.returns
returns c =
    let f : SFits w64 c.in_ok-time.time = search rules in
    c.later.ensures
    ∙ rw (to_z-of_z f, c.fraction_at.ensures.0)
    (rw (← c.in_ok-time.ensures) at (fields-then c.args.revision c.args.w c.args.s.now c.in_ok-check_revision.ensures c.fields_at.result c.fields_at.ensures (rw c.number_at.ensures.0 at c.if-number_at-gt32767.false)))
