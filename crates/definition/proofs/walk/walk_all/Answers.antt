-- `definition::walk::walk_all` meets its contract: the header, then what follows it.
use mathlib.Core.Path.{sym}
use Rattle.std.proofs.lemmas.Result.{err_from_is_err_and}
use Rattle.definition.specs.Steps.{walk_all}
use Rattle.definition.proofs.walk.Known.{headed}
use Rattle.definition.proofs.walk.walk_all.Goals as goal

pub returns-in_err-h : goal.returns-in_err-h
unfolding walk_all
returns-in_err-h c =
    let p = err_from_is_err_and c.from_residual.result c.from_residual.ensures.1 in
    rw (p.1, p.2, ← c.in_err-h.ensures)

pub walk_body-requires : goal.walk_body-requires
walk_body-requires c =
    let h = headed _ _ (sym c.in_ok-h.ensures) in
    (h.start, h.most)

pub returns : goal.returns
unfolding walk_all
returns c = rw (← c.in_ok-h.ensures) c.walk_body.ensures
