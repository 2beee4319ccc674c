-- A sound rule is a rule that has passed its checks.
use Rattle.std.specs.Prelude.{Option, option_map}
use Rattle.zone.specs.declared.rules.Rule.{Rule}
use Rattle.zone.specs.declared.rules.SoundRule.{SoundRule}

abbrev pub rule_of : Option SoundRule → Option Rule
rule_of = option_map (λ sound. sound.rule)
