-- `in_force::shown::shown_at` meets its contract: the candidates are all ticks that show the local tick.
use Rattle.std.proofs.Common.{◌∙◌, w32, rules}
use mir.Val.{SFits}
use mir.ValLaws.{to_z-of_z}
use Rattle.in_force.specs.Steps.{candidates}
use Rattle.in_force.proofs.shown.CandidateLaws.{candidates-are}
use Rattle.in_force.proofs.shown.shown_at.Goals as goal

pub returns : goal.returns
unfolding candidates
returns c =
    let fits-daylight : SFits w32 c.args.k.daylight = search rules in
    let fits-standard : SFits w32 c.args.k.standard = search rules in
    let in-daylight = rw (to_z-of_z w32 _ fits-daylight) at c.plus_bias-d.ensures in
    let in-standard = rw (to_z-of_z w32 _ fits-standard) at c.plus_bias-s.ensures in
    rw (in-daylight, in-standard) at c.shown_of.ensures
    ∙ candidates-are c.args.k c.args.local c.args.start c.args.end c.requires.0 c.requires.1 c.requires.2
