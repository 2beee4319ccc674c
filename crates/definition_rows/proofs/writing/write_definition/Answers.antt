-- `writing::write_definition` meets its contract: the name, the row, the room, then the header and the rules behind it.
use Rattle.std.proofs.Common.{length, refl, ap, sym, ◌∙◌, arith}
use Rattle.std.proofs.lemmas.Result.{err_from_is_err_and}
use Rattle.refusal.specs.Outcome.{answered}
use Rattle.definition.proofs.writing.Stored.{length-definition}
use Rattle.definition.proofs.writing.Accepted.{name-accepted, row-counted}
use Rattle.definition_rows.proofs.writing.Ways.{name-refused, row-refused, no-room, has-room, put-whole}
use Rattle.definition_rows.proofs.writing.write_definition.Goals as goal

pub returns-in_err-check_name : goal.returns-in_err-check_name
returns-in_err-check_name c =
    let p = err_from_is_err_and c.from_residual.result c.from_residual.ensures.1 in
    rw (p.1, p.2, name-refused _ _ _ (sym c.in_err-check_name.ensures)) (refl, refl)

pub returns-in_err-check_row : goal.returns-in_err-check_row
returns-in_err-check_row c =
    let p = err_from_is_err_and c.from_residual-in_err-check_row.result c.from_residual-in_err-check_row.ensures.1 in
    rw (p.1, p.2, row-refused _ _ _ (sym c.in_ok-check_name.ensures) (sym c.in_err-check_row.ensures)) (refl, refl)

pub overflow_add-length : goal.overflow_add-length
overflow_add-length c =
    omega (arith, (name-accepted _ (sym c.in_ok-check_name.ensures)).short, (row-counted _ (sym c.in_ok-check_row.ensures)).1)

pub returns-then-out-length : goal.returns-then-out-length
returns-then-out-length c =
    rw (no-room _ _ _ (sym c.in_ok-check_name.ensures) (sym c.in_ok-check_row.ensures) c.if-out-length.true) (refl, refl)

pub overflow_cast-row : goal.overflow_cast-row
overflow_cast-row c = record { fits = omega (arith, (row-counted _ (sym c.in_ok-check_row.ensures)).1) }

pub put_header-requires : goal.put_header-requires
put_header-requires c = ((name-accepted _ (sym c.in_ok-check_name.ensures)).short, omega (arith, c.if-out-length.false))

pub returns : goal.returns
returns c =
    let name = c.args.name.now in
    let row = c.args.row.now in
    let out = c.args.out.now in
    rw (has-room name row (length out) (sym c.in_ok-check_name.ensures) (sym c.in_ok-check_row.ensures) c.if-out-length.false)
    (ap answered (sym (length-definition name row)), c.put_rules.ensures ∙ rw c.put_header.ensures (put-whole name row out c.if-out-length.false))
