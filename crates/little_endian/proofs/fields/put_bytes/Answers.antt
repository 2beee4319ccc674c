-- `little_endian::fields::put_bytes` meets its contract: what was stored and what is left come to the whole.
use Rattle.std.proofs.Common.{◌≡◌, ◌+◌, suc, refl, sym, ap, ◌∙◌, arith, slice_index_or}
use native.Mathlib.Nat.{add-zero}
use lib.ListN.{length, length-set, drop_of_length-le}
use Rattle.std.proofs.lemmas.List.{drop_more, drop_all}
use Rattle.little_endian.specs.Stored.{stored}
use Rattle.little_endian.proofs.fields.put_bytes.Goals as goal

pub loop-i-init : goal.loop-i-init
loop-i-init c = record { same = refl; left = rw (add-zero c.args.at) }

pub loop-i-preserved : goal.loop-i-preserved
unfolding stored
loop-i-preserved c =
    let l = c.loop-i in
    let next : c.args.at + (l.i + 1) ≡ suc (c.args.at + l.i) = omega arith in
    record {
      same = length-set l.out (c.args.at + l.i) (slice_index_or c.args.bytes.now l.i 0) ∙ l.invariant.same;
      left = rw next (rw (drop_more c.args.bytes.now l.i 0 (omega arith)) at l.invariant.left);
    }

pub returns : goal.returns
unfolding stored
returns c = rw (drop_all c.loop-i.i c.args.bytes.now (omega arith)) at c.loop-i.invariant.left
