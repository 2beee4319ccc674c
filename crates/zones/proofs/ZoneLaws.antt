-- What readers say of bytes, with and without the row.
use mathlib.Core.Path.{◌≡◌, refl}
use mathlib.Core.List.{List}
use Rattle.refusal.specs.Outcome.{Outcome, refused, answered, ◌>>◌}
use Rattle.refusal.specs.Lent.{written}
use Rattle.zone.specs.declared.rules.Rule.{Rule}
use Rattle.definition.specs.Places.{rules_told}
use Rattle.zones.specs.Zones.{one_rule, verdict, accepted}

pub with_row : (o : Outcome (List Rule)) → (verdict (written o) >> answered (rules_told o)) ≡ o
with_row (refused n) = refl
with_row (answered rules) = refl

pub verdict-written : (o : Outcome (List Rule)) → verdict (written o) ≡ verdict o
verdict-written (refused n) = refl
verdict-written (answered rules) = refl

pub verdict-one : (o : Outcome Rule) → verdict o ≡ verdict (one_rule o)
verdict-one (refused n) = refl
verdict-one (answered r) = refl

pub accepted-verdict : {A : Type 0} (o : Outcome A) → accepted (verdict o) ≡ accepted o
accepted-verdict (refused n) = refl
accepted-verdict (answered a) = refl
