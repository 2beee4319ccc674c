-- `remote_desktop::put_remote` meets its contract: a bias and two halves.
use mir.ValLaws.{to_z-of_z}
use mir.Syntax.{w32}
use borrow.Author.Rules.{rules}
use Rattle.remote_desktop.proofs.PutLaws.{put-halves}
use Rattle.remote_desktop.proofs.put_remote.Goals as goal

pub returns : goal.returns
returns c =
    let a = c.args in
    put-halves a.out.now a.standard a.daylight a.rule c.well_formed.1.1.0.1.0.1 c.well_formed.1.1.1.0.1.0.1
    (rw (to_z-of_z w32 a.rule.bias (search rules)) at c.write.ensures)
    (rw (to_z-of_z w32 a.rule.standard_bias (search rules)) at c.put_half.ensures)
    (rw (to_z-of_z w32 a.rule.daylight_bias (search rules)) at c.put_half-2.ensures)
