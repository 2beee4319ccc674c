-- The checks of a row as a fold over its rules. No contract rests on these: the law `row-checked` shows that they come to the definition.
use Rattle.std.specs.Prelude.{ℕ, suc, Bool, cond, length, ltb, eqb, Option, Some, None, Result, Ok, Err}
use mathlib.Core.List.{List, foldl}
use Rattle.refusal.specs.Outcome.{Outcome, require, ◌>>◌}
use Rattle.refusal.specs.Results.{outcome_of, result_of}
use Rattle.refusal.specs.declared.Refusal.{Refusal}
use Rattle.calendar.specs.Ranges.{within}
use Rattle.zone.specs.declared.rules.Rule.{Rule}
use Rattle.zone.specs.Rules.{check_rule}

-- how far the rules are checked: the first refusal, the year of the rule before, and how many rules are active (2 stands for more)
pub record RowCheck : Type 0 where
  pub check : Result (Unit {0}) Refusal
  pub before : Option ℕ
  pub active : ℕ

-- how many are active, where 2 stands for more
unfoldable pub one_more : ℕ → Bool → ℕ
one_more n active = cond active (cond (ltb n 2) (suc n) n) n

abbrev pub begun : RowCheck
begun = record { check = (Ok tt); before = None; active = 0 }

-- past one rule: a refusal stays
abbrev pub next_of : Result (Unit {0}) Refusal → RowCheck → Rule → RowCheck
next_of (Ok tt) c r = record { check = result_of (check_rule c.before r); before = Some r.year; active = one_more c.active r.active }
next_of (Err why) c r = c

unfoldable pub checked_next : RowCheck → Rule → RowCheck
checked_next c r = next_of c.check c r

-- the number of rules, then the first refusal of a rule, then the marks
unfoldable pub settled : ℕ → RowCheck → Outcome (Unit {0})
settled count c = do
  require (within 1 1024 count) 6
  outcome_of c.check
  require (eqb c.active 1) 12

-- the whole of a row's checks
abbrev pub checked_row : List Rule → Result (Unit {0}) Refusal
checked_row row = result_of (settled (length row) (foldl checked_next begun row))
