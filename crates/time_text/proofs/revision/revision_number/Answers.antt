-- `time_text::revision::revision_number` meets its contract: a decimal of 32 bits, or none.
use mathlib.Core.Path.{sym, ◌∙◌}
use native.Mathlib.Omega.{arith}
use Rattle.time_text.proofs.decimal.Values.{decimal-most}
use Rattle.time_text.proofs.revision.revision_number.Goals as goal

pub overflow_cast-result : goal.overflow_cast-result
overflow_cast-result c =
    omega (arith, decimal-most c.args.s.now 4294967295 _ (sym c.decimal.ensures ∙ c.in-Some.is))
