-- What the loop keeps.
use Rattle.time_text.proofs.decimal.Values.{Reading}
use Rattle.time_text.proofs.decimal.decimal.Given as goal

abbrev pub invariant-loop-byte : goal.invariant-loop-byte
invariant-loop-byte l = Reading l.s l.most l.value l.byte-index
