-- `in_force::stretches::stretch_in_year` meets its contract: the rule's year says the bias, and its two starts the end.
use Rattle.std.proofs.Common.{◌∙◌, w32}
use mir.ValLaws.{to_z-of_z}
use Rattle.in_force.proofs.stretches.StretchLaws.{stretch-is}
use Rattle.in_force.proofs.stretches.stretch_in_year.Goals as goal

pub returns : goal.returns
returns c =
    let s = c in
    let k = c.year_bias-k in
    let b = c.bias_at-bias in
    stretch-is s.args.rule.rule s.args.year s.args.u k.result _ s.requires.2 k.ensures
    (to_z-of_z w32 b.result (record { sfits = b.type_inv }) ∙ b.ensures) c.daylight_between-daylight.ensures
    (rw c.year_start.ensures.0 at c.next_change-end.ensures)
