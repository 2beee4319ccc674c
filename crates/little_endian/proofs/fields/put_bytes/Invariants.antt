-- The bytes from `i` on are left to store.
use Rattle.std.proofs.Common.{◌≡◌, ◌+◌, length}
use lib.ListN.{drop}
use Rattle.little_endian.specs.Stored.{stored}
use Rattle.little_endian.proofs.fields.put_bytes.Given as goal

abbrev pub invariant-loop-i : goal.invariant-loop-i
invariant-loop-i l =
    record {
      same : length l.out ≡ length l.fn.out;
      left : stored l.out (l.at + l.i) (drop l.i l.bytes) ≡ stored l.fn.out l.at l.bytes;
    }
