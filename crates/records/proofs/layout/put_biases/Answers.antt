-- `records::layout::put_biases` meets its contract: three biases stored one after another.
use mir.ValLaws.{to_z-of_z}
use mir.Syntax.{w32}
use Rattle.records.proofs.layout.PutLaws.{put-biases}
use Rattle.records.proofs.layout.put_biases.Goals as goal

pub returns : goal.returns
returns c =
    let a = c.args in
    let f = c.ranges in
    put-biases a.out.now a.at a.a a.b a.c
    (rw (to_z-of_z w32 a.a f.a) at c.write.ensures)
    (rw (to_z-of_z w32 a.b f.b) at c.write-2.ensures)
    (rw (to_z-of_z w32 a.c f.c) at c.write-3.ensures)
