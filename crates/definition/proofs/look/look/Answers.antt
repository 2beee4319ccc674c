-- `definition::look::look` meets its contract: the header, the rules, the room, then the first kept place.
use Rattle.std.proofs.Common.{sym, arith}
use Rattle.std.proofs.lemmas.Result.{err_from_is_err_and}
use Rattle.definition.proofs.walk.Known.{headed}
use Rattle.definition.proofs.look.Tellings.{header-refused, body-refused, no-room, told-of}
use Rattle.definition.proofs.look.look.Goals as goal

pub returns-in_err-h : goal.returns-in_err-h
returns-in_err-h c =
    let p = err_from_is_err_and c.from_residual.result c.from_residual.ensures.1 in
    rw (p.1, p.2) (sym (header-refused _ _ (sym c.in_err-h.ensures)))

pub walk_body-requires : goal.walk_body-requires
walk_body-requires c =
    let h = headed _ _ (sym c.in_ok-h.ensures) in
    (h.start, h.most)

pub returns-in_err-w : goal.returns-in_err-w
returns-in_err-w c =
    let p = err_from_is_err_and c.from_residual-in_err-w.result c.from_residual-in_err-w.ensures.1 in
    rw (p.1, p.2) (sym (body-refused _ _ _ (sym c.in_ok-h.ensures) (sym c.in_err-w.ensures)))

pub returns-then-room-w : goal.returns-then-room-w
returns-then-room-w c = sym (no-room _ _ _ (sym c.in_ok-h.ensures) _ (sym c.in_ok-w.ensures) c.if-room-w.true)

pub overflow_add-h : goal.overflow_add-h
overflow_add-h c =
    let h = headed _ _ (sym c.in_ok-h.ensures) in
    omega (arith, h.start)

pub returns : goal.returns
returns c = sym (told-of _ _ _ (sym c.in_ok-h.ensures) _ (sym c.in_ok-w.ensures) c.if-room-w.false c.first_kept-start.ensures)
