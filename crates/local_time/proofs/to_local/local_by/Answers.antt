-- `local_time::to_local::local_by` meets its contract: UTC less the bias in force.
use mathlib.Core.Path.{◌≡◌, sym, ◌∙◌, ap}
use native.Mathlib.Omega.{arith}
use mir.Syntax.{w32}
use mir.Val.{SFits, to_z, of_z}
use mir.ValLaws.{to_z-of_z}
use Rattle.in_force.specs.declared.rule_bias.YearBias.{YearBias}
use Rattle.in_force.specs.RuleBias.{bias_of}
use Rattle.in_force.specs.Steps.{bias_at, year_bias}
use Rattle.days.specs.Ticks.{year_of}
use Rattle.zone.specs.declared.rules.Rule.{Rule}
use Prim.Native.Nat.{ℕ}
use lib.IntN.{ℤ}
use Rattle.in_force.proofs.rule_bias.YearLaws.{bias-in, bias-ok}
use Rattle.in_force.proofs.shown.WindowLaws.{in_window}
use Rattle.local_time.proofs.LocalLaws.{local-small}
use Rattle.local_time.proofs.to_local.local_by.Goals as goal

pub year_bias-k-requires : goal.year_bias-k-requires
year_bias-k-requires c =
    let y = in_window _ c.requires.0 c.requires.1 in
    (omega (arith, y.0, c.year_of-year.ensures), omega (arith, y.1, c.year_of-year.ensures))

-- the bias, as it is kept
in-force : (r : Rule) (u y : ℕ) (k : YearBias) (b : ℤ) → SFits w32 b → b ≡ bias_at k u → k ≡ year_bias y r → y ≡ year_of u → to_z w32 (of_z w32 b) ≡ bias_of r u
in-force r u y k b f e h q = to_z-of_z w32 b f ∙ e ∙ ap (λ (z : YearBias). bias_at z u) h ∙ sym (bias-in r y u (sym q))

pub less_bias-requires : goal.less_bias-requires
less_bias-requires c =
    let r = c.args.rule.rule in
    let u = c.args.tick in
    let e = in-force r u _ _ _ (record { sfits = c.bias_at.type_inv }) c.bias_at.ensures c.year_bias-k.ensures c.year_of-year.ensures in
    (rw e (bias-ok r u c.args.rule.sound), omega (arith, c.requires.0), omega (arith, c.requires.1))

pub local_tick-requires : goal.local_tick-requires
local_tick-requires c =
    let r = c.args.rule.rule in
    let u = c.args.tick in
    let e = in-force r u _ _ _ (record { sfits = c.bias_at.type_inv }) c.bias_at.ensures c.year_bias-k.ensures c.year_of-year.ensures in
    let small = local-small u (bias_of r u) (bias-ok r u c.args.rule.sound) c.requires.1 in
    omega (arith, rw e at c.less_bias.ensures, small)

pub returns : goal.returns
returns c =
    let r = c.args.rule.rule in
    let u = c.args.tick in
    let e = in-force r u _ _ _ (record { sfits = c.bias_at.type_inv }) c.bias_at.ensures c.year_bias-k.ensures c.year_of-year.ensures in
    rw (c.local_tick.ensures, c.less_bias.ensures, e)
