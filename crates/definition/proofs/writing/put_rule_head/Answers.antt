-- `definition::writing::put_rule_head` meets its contract: six fields stored one after another.
use Rattle.definition.proofs.writing.Stored.{put-head}
use Rattle.definition.proofs.writing.put_rule_head.Goals as goal

pub returns : goal.returns
returns c =
    let a = c.args in
    put-head a.out.now a.at a.flags a.year
    c.write.ensures
    c.write-2.ensures
    c.write-3.ensures
    c.write-4.ensures
    c.write_bytes.ensures
    c.write_bytes-2.ensures
