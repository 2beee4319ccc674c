-- What the loop keeps.
use Rattle.std.proofs.Common.{◌≡◌, length}
use Rattle.time_text.proofs.clock.Numbers.{Read}
use Rattle.time_text.proofs.clock.number_at.Given as goal

abbrev pub invariant-loop-byte : goal.invariant-loop-byte
invariant-loop-byte l = (length l.part ≡ l.digits) × Read l.part l.value l.byte-index
