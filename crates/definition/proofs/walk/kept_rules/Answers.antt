-- `definition::walk::kept_rules` meets its contract: the walk kept as many rules as the definition holds.
use Rattle.std.proofs.lemmas.Result.{err_from_is_err_and}
use Rattle.definition.proofs.walk.Calls.{kept-count}
use Rattle.definition.proofs.walk.kept_rules.Goals as goal

pub returns-in_err-w : goal.returns-in_err-w
returns-in_err-w c =
    let p = err_from_is_err_and c.from_residual.result c.from_residual.ensures.1 in
    rw (p.1, p.2, kept-count c.args.bytes.now, ← c.in_err-w.ensures)

pub returns : goal.returns
returns c = rw (kept-count c.args.bytes.now, ← c.in_ok-w.ensures)
