-- `time_text::number::below_zero` meets its contract: a decimal below zero, or none.
use mathlib.Core.Path.{sym, ◌∙◌}
use Rattle.time_text.specs.Number.{least}
use mir.Syntax.{w64}
use mir.Val.{SFits}
use mir.Facts.{to_z-of_z}
use borrow.Author.Rules.{rules}
use Rattle.std.proofs.lemmas.Result.{err_from_is_err_and}
use Rattle.time_text.proofs.number.Signs.{a_number, no_number}
use Rattle.time_text.proofs.decimal.Values.{decimal-most}
use Rattle.time_text.proofs.number.below_zero.Goals as goal

pub negative-requires : goal.negative-requires
negative-requires c = decimal-most c.args.s.now least _ (sym c.decimal.ensures ∙ a_number _ _ c.in_ok-n.ensures.value)

pub returns-in_err-n : goal.returns-in_err-n
returns-in_err-n c =
    let p = err_from_is_err_and c.from_residual.result c.from_residual.ensures.1 in
    let q = no_number c.decimal.result _ c.in_err-n.ensures.value in
    rw (p.1, p.2, q.1, sym c.decimal.ensures ∙ q.0)

pub returns : goal.returns
returns c =
    let f : SFits w64 c.negative.result = search rules in
    rw (to_z-of_z f, c.negative.ensures, sym c.decimal.ensures ∙ a_number _ _ c.in_ok-n.ensures.value)
