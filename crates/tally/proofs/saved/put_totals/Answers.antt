-- `tally::saved::put_totals` meets its contract.
use mathlib.Core.Path.{sym, ap, ◌∙◌}
use native.Mathlib.Omega.{arith}
use lib.ListN.{length}
use Rattle.little_endian.proofs.StoredLaws.{length-stored}
use Rattle.tally.proofs.saved.SavedLaws.{put-total, put_last}
use Rattle.tally.proofs.saved.put_totals.Goals as goal

pub loop-i-preserved : goal.loop-i-preserved
loop-i-preserved c =
    let l = c.loop-i in
    (ap length c.write.ensures ∙ length-stored _ _ _ ∙ l.invariant.0, put-total _ _ l.i (omega arith) c.write.ensures ∙ l.invariant.1)

pub returns : goal.returns
returns c =
    let l = c.loop-i in
    sym (put_last _ _ l.i (omega arith)) ∙ l.invariant.1
