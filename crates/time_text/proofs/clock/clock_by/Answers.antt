-- `time_text::clock::clock_by` meets its contract: another length, another form, or a time.
use mir.Syntax.{w64}
use mir.Val.{SFits}
use mir.Facts.{to_z-of_z}
use borrow.Author.Rules.{rules}
use Rattle.std.proofs.lemmas.Result.{err_from_is_err_and}
use Rattle.time_text.specs.Steps.{clock_by}
use Rattle.time_text.proofs.clock.Meaning.{text-refused}
use Rattle.time_text.proofs.clock.clock_by.Goals as goal

pub returns-then-not-clock_ends : goal.returns-then-not-clock_ends
unfolding clock_by
returns-then-not-clock_ends c = rw (← c.if-not-clock_ends.ensures)

pub returns-then-not-matches : goal.returns-then-not-matches
unfolding clock_by
returns-then-not-matches c = rw (← c.if-not-clock_ends.ensures, ← c.if-not-matches.ensures)

pub returns-in_err-time_of : goal.returns-in_err-time_of
unfolding clock_by
returns-in_err-time_of c =
    let p = err_from_is_err_and c.from_residual.result c.from_residual.ensures.1 in
    rw (p.1, p.2, ← c.if-not-clock_ends.ensures, ← c.if-not-matches.ensures) (text-refused _ _ c.in_err-time_of.ensures)

pub returns : goal.returns
unfolding clock_by
returns c =
    let f : SFits w64 c.in_ok-time_of.field-0 = search rules in
    rw (to_z-of_z f, ← c.if-not-clock_ends.ensures, ← c.if-not-matches.ensures, ← c.in_ok-time_of.ensures)
