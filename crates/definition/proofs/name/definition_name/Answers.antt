-- `definition::name::definition_name` meets its contract: a refused definition has no name, another has it at place 8.
use Rattle.std.proofs.Common.{sym, arith}
use Rattle.definition.proofs.walk.Calls.{no_name, name-refused, name-there}
use Rattle.definition.proofs.walk.Known.{headed}
use Rattle.definition.proofs.name.definition_name.Goals as goal

pub returns-in_default : goal.returns-in_default
returns-in_default c = no_name _ (sym c.in_default.ensures)

pub walk_body-requires : goal.walk_body-requires
walk_body-requires c =
    let h = headed c.args.bytes.now _ (sym c.in-Ok.ensures) in
    (h.start, h.most)

pub returns-then-is_err : goal.returns-then-is_err
returns-then-is_err c = name-refused c.args.bytes.now _ (sym c.in-Ok.ensures) c.walk_body.result c.walk_body.ensures (sym c.if-is_err.ensures.value)

pub overflow_mul-result : goal.overflow_mul-result
overflow_mul-result c = omega (arith, (headed c.args.bytes.now _ (sym c.in-Ok.ensures)).few)

pub overflow_add-result : goal.overflow_add-result
overflow_add-result c = omega (arith, (headed c.args.bytes.now _ (sym c.in-Ok.ensures)).few)

pub slice_bounds-result-end-2 : goal.slice_bounds-result-end-2
slice_bounds-result-end-2 c = (headed c.args.bytes.now _ (sym c.in-Ok.ensures)).name

pub returns : goal.returns
returns c = name-there c.args.bytes.now _ (sym c.in-Ok.ensures) c.walk_body.result c.walk_body.ensures (sym c.if-is_err.ensures.value)
