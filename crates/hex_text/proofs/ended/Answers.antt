-- `hex_text::ended` meets its contract, return by return.
use native.Mathlib.Omega.{arith}
use Rattle.std.proofs.lemmas.Option.{same_Some}
use Rattle.hex_text.proofs.HexLaws.{at_end}
use Rattle.hex_text.proofs.ended.Goals as goal

pub returns-then-pending : goal.returns-then-pending
returns-then-pending c = (λ out l. rw (at_end out c.args.pending l, c.if-pending.true), λ len e. omega (arith, same_Some _ _ e))

pub returns-else-pending : goal.returns-else-pending
returns-else-pending c = (λ out l. rw (at_end out c.args.pending l, c.if-pending.false), λ len e. cc)
