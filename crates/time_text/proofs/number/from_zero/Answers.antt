-- `time_text::number::from_zero` meets its contract: a decimal from zero up, or none.
use mathlib.Core.Path.{sym, ◌∙◌}
use Rattle.calendar.specs.Fields.{last_time}
use native.Mathlib.Omega.{arith}
use mir.Syntax.{w64}
use mir.ValLaws.{to_z_pos}
use Rattle.std.proofs.lemmas.Result.{err_from_is_err_and}
use Rattle.time_text.proofs.number.Signs.{a_number, no_number}
use Rattle.time_text.proofs.decimal.Values.{decimal-most}
use Rattle.time_text.proofs.number.from_zero.Goals as goal

pub overflow_cast-result : goal.overflow_cast-result
overflow_cast-result c = omega (arith, decimal-most c.args.s.now last_time _ (sym c.decimal.ensures ∙ a_number _ _ c.in_ok-n.ensures.value))

pub returns-in_err-n : goal.returns-in_err-n
returns-in_err-n c =
    let p = err_from_is_err_and c.from_residual.result c.from_residual.ensures.1 in
    let q = no_number c.decimal.result _ c.in_err-n.ensures.value in
    rw (p.1, p.2, q.1, sym c.decimal.ensures ∙ q.0)

pub returns : goal.returns
returns c = let n = decimal-most c.args.s.now last_time _ (sym c.decimal.ensures ∙ a_number _ _ c.in_ok-n.ensures.value) in rw (to_z_pos w64 c.in_ok-n.n (omega arith), sym c.decimal.ensures ∙ a_number _ _ c.in_ok-n.ensures.value)
