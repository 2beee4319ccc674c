-- `definition::walk::walk_body` meets its contract: the rules, then the last two checks.
use Rattle.std.proofs.lemmas.Result.{err_from_is_err_and}
use Rattle.definition.specs.Steps.{walk_body}
use Rattle.definition.proofs.walk.walk_body.Goals as goal

pub returns-in_err-w : goal.returns-in_err-w
unfolding walk_body
returns-in_err-w c =
    let p = err_from_is_err_and c.from_residual.result c.from_residual.ensures.1 in
    rw (p.1, p.2, ← c.in_err-w.ensures)

pub returns : goal.returns
unfolding walk_body
returns c = rw (← c.in_ok-w.ensures) c.finish.ensures
