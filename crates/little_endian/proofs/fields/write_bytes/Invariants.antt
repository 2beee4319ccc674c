-- What the loop keeps: the low bytes of `v` are left to store.
use Prim.Native.Nat.{◌-◌}
use mathlib.Core.Path.{◌≡◌}
use mathlib.Core.List.{◌++◌}
use lib.ListN.{take}
use Rattle.little_endian.specs.Bytes.{to_bytes}
use Rattle.little_endian.proofs.fields.write_bytes.Given as goal

abbrev pub invariant-loop-byte : goal.invariant-loop-byte
invariant-loop-byte l = take l.byte-index l.byte-items ++ to_bytes (l.width - l.byte-index) l.v ≡ to_bytes l.width l.x
