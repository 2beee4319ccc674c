-- What the loop keeps.
use Prim.Native.Nat.{ℕ, ◌≤◌}
use mathlib.Core.Path.{◌≡◌}
use mathlib.Core.List.{List}
use lib.ListN.{length, drop}
use Rattle.hex_text.specs.declared.Pending.{Pending}
use Rattle.hex_text.specs.Hex.{read_hex, fitting, still_read}
use Rattle.hex_text.proofs.unhex.Given as goal

-- the bytes read so far, and what is still to read
pub record Reading (text : List ℕ) (room : ℕ) (out : List ℕ) (p : Pending) (i : ℕ) : Type 0 where
  pub same : length out ≡ room
  pub filled : p.len ≤ length out
  pub digit : p.high ≤ 16
  pub left : still_read out p (drop i text) ≡ fitting room (read_hex 16 text)

abbrev pub invariant-loop-byte : goal.invariant-loop-byte
invariant-loop-byte l = Reading l.text (length l.initial.out) l.out l.pending l.byte-index
