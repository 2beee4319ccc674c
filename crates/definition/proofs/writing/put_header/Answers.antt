-- `definition::writing::put_header` meets its contract: six fields stored one after another.
use Rattle.definition.proofs.writing.Stored.{put_front}
use Rattle.definition.proofs.writing.put_header.Goals as goal

pub returns : goal.returns
returns c =
    let a = c.args in
    put_front a.out.now a.name.now a.count
    c.write.ensures
    c.write-2.ensures
    c.write-3.ensures
    c.write-4.ensures
    c.put_bytes.ensures
    c.write-5.ensures
