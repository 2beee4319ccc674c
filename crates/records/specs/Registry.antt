-- The registry record, 44 bytes. It gives one active rule of year 0.
use Rattle.std.specs.Prelude.{ℕ, true, List, length, eqb, None}
use Rattle.refusal.specs.Outcome.{Outcome, answered, require, ◌>>◌}
use Rattle.refusal.specs.Lent.{fitting}
use Rattle.zone.specs.declared.rules.Rule.{Rule}
use Rattle.zone.specs.Rules.{check_dates, check_rule, normal_rule}
use Rattle.records.specs.Layout.{rule_at, rule_field_bytes}

unfoldable pub read_registry : List ℕ → Outcome Rule
read_registry s = do
  require (eqb (length s) 44) 2
  check_dates (rule_at s 0 0 true)
  answered (normal_rule (rule_at s 0 0 true))

-- year and mark are not written
unfoldable pub write_registry : Rule → ℕ → Outcome (List ℕ)
write_registry r room = do
  check_rule None r
  fitting (rule_field_bytes (normal_rule r)) room
