-- `records::layout::put_date` meets its contract: eight fields stored one after another.
use Rattle.records.proofs.layout.PutLaws.{put-eight}
use Rattle.records.proofs.layout.put_date.Goals as goal

pub returns : goal.returns
returns c =
    let a = c.args in
    put-eight a.out.now a.at a.d
    c.write.ensures
    c.write-2.ensures
    c.write-3.ensures
    c.write-4.ensures
    c.write-5.ensures
    c.write-6.ensures
    c.write-7.ensures
    c.write-8.ensures
