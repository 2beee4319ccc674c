-- What the loop keeps: the units that are left decide, by the flag.
use Prim.Native.Nat.{◌*◌}
use mathlib.Core.Path.{◌≡◌}
use mathlib.Core.Bool.{false}
use Rattle.little_endian.specs.Fields.{part}
use Rattle.utf16.specs.Surrogates.{units_of}
use Rattle.utf16.proofs.SurrogateLaws.{found, left}
use Rattle.utf16.proofs.has_lone_surrogate.Given as goal

abbrev pub invariant-loop-i : goal.invariant-loop-i
invariant-loop-i l = found false (units_of (part l.bytes l.at (2 * l.units))) ≡ found l.after_high (left l.bytes l.at l.units l.i)
