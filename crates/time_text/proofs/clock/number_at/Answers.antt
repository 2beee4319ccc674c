-- `time_text::clock::number_at` meets its contract. The loop's invariant: `value` is the number of the bytes before the index.
use native.Mathlib.Omega.{arith}
use Rattle.time_text.proofs.clock.Numbers.{begins, fits, next, part-length, whole}
use Rattle.time_text.proofs.clock.number_at.Goals as goal

pub loop-byte-init : goal.loop-byte-init
loop-byte-init c = (part-length _ _ _ c.requires.1, begins)

pub overflow_mul-value : goal.overflow_mul-value
overflow_mul-value c = omega (arith, fits c.loop-byte.invariant.1 (omega arith))

pub overflow_add-value : goal.overflow_add-value
overflow_add-value c = omega (arith, c.digit.ensures.1, fits c.loop-byte.invariant.1 (omega arith))

pub loop-byte-preserved : goal.loop-byte-preserved
loop-byte-preserved c = (c.loop-byte.invariant.0, next c.loop-byte.invariant.1 (omega arith) c.digit.ensures.0 c.digit.ensures.1)

pub returns : goal.returns
returns c = whole _ _ _ c.requires.1 c.loop-byte.invariant.1 (omega arith)
