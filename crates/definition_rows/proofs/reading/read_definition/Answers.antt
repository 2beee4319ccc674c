-- `reading::read_definition` meets its contract: it stores the rules that a look at the bytes counts.
use Rattle.std.proofs.Common.{refl, sym, ◌∙◌}
use Rattle.std.proofs.lemmas.Result.{err_from_is_err_and}
use Rattle.definition_rows.proofs.reading.Looked.{look-refused, looked}
use Rattle.definition_rows.proofs.reading.read_definition.Goals as goal

pub returns-in_err-found : goal.returns-in_err-found
returns-in_err-found c =
    let p = err_from_is_err_and c.from_residual.result c.from_residual.ensures.1 in
    rw (p.1, p.2, look-refused _ _ (sym c.in_err-found.ensures)) (refl, refl)

pub load-requires : goal.load-requires
load-requires c =
    let l = looked c.args.bytes.now c.args.row.now _ (sym c.in_ok-found.ensures) in
    (l.room, l.there)

pub returns : goal.returns
returns c =
    let l = looked c.args.bytes.now c.args.row.now _ (sym c.in_ok-found.ensures) in
    (l.count, c.load.ensures ∙ l.row)
