-- What the loop keeps: `v` is the field of the bytes read so far, which are the last ones.
use Prim.Native.Nat.{ℕ, ◌≤◌, ◌-◌, ◌+◌}
use mathlib.Core.Path.{◌≡◌}
use mathlib.Core.List.{List}
use lib.ListN.{length}
use Rattle.little_endian.specs.Fields.{unsigned_at}
use Rattle.little_endian.proofs.fields.read_bytes.Given as goal

pub record Reading (s : List ℕ) (at w v n : ℕ) : Type 0 where
  pub within : n ≤ w
  pub read : v ≡ unsigned_at s (at + (w - n)) n

abbrev pub invariant-loop-byte : goal.invariant-loop-byte
invariant-loop-byte l =
    Reading l.s l.at l.width l.v (length l.yielded) × (goal.iterator-loop-byte).can_next l.byte-iterator × (goal.iterator-loop-byte).is_finite l.byte-iterator
