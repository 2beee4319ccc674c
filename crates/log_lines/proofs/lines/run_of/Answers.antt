-- `log_lines::lines::run_of` meets its contract: the first word's fault, the second's, or two times.
use mir.Syntax.{w64}
use mir.Val.{SFits}
use mir.Facts.{to_z-of_z}
use borrow.Author.Rules.{rules}
use Rattle.std.proofs.lemmas.Result.{err_from_is_err_and}
use Rattle.log_lines.proofs.lines.run_of.Goals as goal

pub returns-in_err-from : goal.returns-in_err-from
returns-in_err-from c =
    let p = err_from_is_err_and c.from_residual.result c.from_residual.ensures.1 in
    rw (p.1, p.2, ← c.in_err-from.ensures)

pub returns-in_err-to : goal.returns-in_err-to
returns-in_err-to c =
    let p = err_from_is_err_and c.from_residual-in_err-to.result c.from_residual-in_err-to.ensures.1 in
    rw (p.1, p.2, ← c.in_ok-from.ensures, ← c.in_err-to.ensures)

pub returns : goal.returns
returns c =
    let f : SFits w64 c.in_ok-from.from = search rules in
    let t : SFits w64 c.in_ok-to.to = search rules in
    rw (to_z-of_z f, to_z-of_z t, ← c.in_ok-from.ensures, ← c.in_ok-to.ensures)
