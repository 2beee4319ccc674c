-- What the loop keeps.
use Prim.Native.Nat.{◌+◌, ◌*◌}
use mathlib.Core.Path.{◌≡◌}
use lib.ListN.{length, drop}
use Rattle.little_endian.specs.Stored.{stored}
use Rattle.tally.specs.Saved.{total_bytes}
use Rattle.tally.proofs.saved.put_totals.Given as goal

abbrev pub invariant-loop-i : goal.invariant-loop-i
invariant-loop-i l = (length l.out ≡ length l.initial.out) × (stored l.out (12 + 8 * l.i) (total_bytes (drop l.i l.total-items)) ≡ stored l.initial.out 12 (total_bytes l.total-items))
