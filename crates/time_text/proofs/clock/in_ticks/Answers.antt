-- `time_text::clock::in_ticks` meets its contract.
use Rattle.std.proofs.Common.{arith, refl}
use Rattle.time_text.proofs.clock.Numbers.{scaled}
use Rattle.time_text.proofs.clock.in_ticks.Goals as goal

pub overflow_mul-result : goal.overflow_mul-result
overflow_mul-result c = rw c.pow.ensures (omega (arith, scaled _ _ c.requires.0 c.requires.1))

pub returns : goal.returns
returns c = rw c.pow.ensures (refl, scaled _ _ c.requires.0 c.requires.1)
