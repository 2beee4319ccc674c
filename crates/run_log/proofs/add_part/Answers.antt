-- `add_part` meets its contract.
use native.Mathlib.Omega.{arith}
use mathlib.Core.Path.{ap, ◌∙◌}
use lib.ListN.{length}
use Rattle.little_endian.proofs.StoredLaws.{length-stored}
use Rattle.zones.specs.Zones.{row_of}
use Rattle.run_log.proofs.PartLaws.{part-ends, part-goes-on}
use Rattle.run_log.proofs.add_part.Goals as goal

pub returns-then-ended : goal.returns-then-ended
returns-then-ended c =
    let a = c.args in
    let p = c.put_bytes in
    let n = ap length p.ensures ∙ length-stored a.bytes.now a.job.len a.part.now in
    (part-ends (row_of a.zone) a.bytes.now a.part.now a.job c.requires (omega arith) p.new.out p.ensures c.take_line.result c.take_line.ensures a.ended c.if-ended.true, omega arith, n)

pub returns : goal.returns
returns c =
    let a = c.args in
    let p = c.put_bytes in
    let n = ap length p.ensures ∙ length-stored a.bytes.now a.job.len a.part.now in
    (part-goes-on (row_of a.zone) a.bytes.now a.part.now a.job c.requires (omega arith) p.new.out p.ensures a.ended c.if-ended.false, omega (arith, n), n)
