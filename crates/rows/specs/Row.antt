-- The checks of a row of rules, in the paper's order. A row is document 01's word for the rules of a zone, in rising order of their years.
use Rattle.std.specs.Prelude.{ℕ, ◌+◌, cond, List, [], ◌∷◌, length, eqb, Option, Some, None}
use Rattle.refusal.specs.Outcome.{Outcome, answered, require, ◌>>◌}
use Rattle.calendar.specs.Ranges.{within}
use Rattle.zone.specs.declared.rules.Rule.{Rule}
use Rattle.zone.specs.Rules.{check_rule}

-- each rule by itself, and its year after that of the rule before: 8, 10, 11, 9
unfoldable pub check_rules : Option ℕ → List Rule → Outcome (Unit {0})
check_rules before [] = answered tt
check_rules before (r ∷ row) = do
  check_rule before r
  check_rules (Some r.year) row

unfoldable pub active_rules : List Rule → ℕ
active_rules [] = 0
active_rules (r ∷ row) = cond r.active 1 0 + active_rules row

-- the checks of a row from 6 to 12
unfoldable pub check_row : List Rule → Outcome (Unit {0})
check_row row = do
  require (within 1 1024 (length row)) 6
  check_rules None row
  require (eqb (active_rules row) 1) 12
