-- A normal definition, by document 01's sentence: "A record that reading accepts is normal if it has majors 2, minors 1, unused flag bits 0,
-- unset dates all zero and weekday 0 in a date with a year." NormalRule says it of the dates.
use Rattle.std.specs.Prelude.{ℕ, zero, suc, ◌+◌, ◌*◌, ◌/◌, ◌≡◌, List}
use Rattle.little_endian.specs.Fields.{unsigned_at}
use Rattle.zone.specs.Rules.{NormalRule}
use Rattle.definition.specs.Definition.{rule_in}
use Rattle.definition.specs.Places.{after_rule}

-- the rule at a place
pub record NormalRuleAt (s : List ℕ) (at : ℕ) : Type 0 where
  pub major : unsigned_at s at 1 ≡ 2
  pub minor : unsigned_at s (at + 1) 1 ≡ 1
  pub unused_bits : unsigned_at s (at + 4) 2 / 4 ≡ 0
  pub dates : NormalRule (rule_in s at)

-- so many rules from a place on
abbrev pub NormalRules : List ℕ → ℕ → ℕ → Type 0
NormalRules s zero at = Unit {0}
NormalRules s (suc more) at = NormalRuleAt s at × NormalRules s more (after_rule s at)

-- the header at place 0, and as many rules as it states from the end of its stated size on
pub record Normal (s : List ℕ) : Type 0 where
  pub major : unsigned_at s 0 1 ≡ 2
  pub minor : unsigned_at s 1 1 ≡ 1
  pub rules : NormalRules s (unsigned_at s (8 + 2 * unsigned_at s 6 2) 2) (4 + unsigned_at s 2 2)
