-- `in_force::rule_bias::bias_at` meets its contract, in daylight time and outside it.
use Rattle.std.proofs.Common.{sym, ◌∙◌, w32}
use mir.ValLaws.{to_z-of_z}
use Rattle.in_force.specs.Steps.{bias_at}
use Rattle.in_force.proofs.rule_bias.bias_at.Goals as goal

pub returns-then-daylight_between : goal.returns-then-daylight_between
unfolding bias_at
returns-then-daylight_between c =
    let k = c.args.k in
    rw (to_z-of_z w32 k.daylight (record { sfits = c.struct_told-1.given.1.1.1.0.1 }), sym c.daylight_between.ensures ∙ c.if-daylight_between.true)

pub returns : goal.returns
unfolding bias_at
returns c =
    let k = c.args.k in
    rw (to_z-of_z w32 k.standard (record { sfits = c.struct_told-2-1.given.1.1.0.1 }), sym c.daylight_between.ensures ∙ c.if-daylight_between.false)
