-- `remote_desktop::put_half` meets its contract: a name, a date and a bias stored one after another.
use mir.ValLaws.{to_z-of_z}
use mir.Syntax.{w32}
use Rattle.remote_desktop.proofs.PutLaws.{put_three}
use Rattle.remote_desktop.proofs.put_half.Goals as goal

pub returns : goal.returns
returns c =
    let a = c.args in
    let f = c.ranges in
    put_three a.out.now a.name a.at a.date a.bias c.well_formed.1.1.0.1.0.1
    c.put_bytes.ensures
    c.put_date.ensures
    (rw (to_z-of_z w32 a.bias f.bias) at c.write.ensures)
