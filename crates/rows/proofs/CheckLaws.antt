-- The checks of a row, rule by rule, come to the definition's.
use Prim.Native.Nat.{ℕ, ◌+◌, ◌≤◌, ◌<◌}
use mathlib.Core.Path.{◌≡◌, refl, sym, ap, ◌∙◌}
use mathlib.Core.Bool.{Bool, true, false, cond}
use mathlib.Core.List.{List, [], ◌∷◌}
use native.Mathlib.Omega.{arith}
use native.Mathlib.Nat.{add-zero}
use lib.ListN.{length, drop, get_or}
use lib.Dec.{eqb}
use mir.Val.{bool_byte}
use Rattle.std.proofs.lemmas.List.{drop_more, drop_all}
use Rattle.std.specs.Prelude.{Option, Some, None}
use Rattle.refusal.specs.Outcome.{Outcome, refused, answered, require, ◌>>◌}
use Rattle.refusal.proofs.Gives.{Gives, gives-test, gives_then, gives-last}
use Rattle.refusal.proofs.Known.{InTable, Known}
use Rattle.calendar.specs.Ranges.{within}
use Rattle.zone.specs.declared.rules.Rule.{Rule}
use Rattle.zone.specs.Dates.{date_ok}
use Rattle.zone.specs.Rules.{dates_match, biases_ok, year_fits, check_dates, check_rule}
use Rattle.rows.specs.Row.{check_rules, active_rules, check_row}

-- ---- the numbers that a rule, and a row, are refused with
module _ (P : ℕ → Type 0) (p8 : P 8) (p9 : P 9) (p10 : P 10) (p11 : P 11) where
  pub rule-gives : (before : Option ℕ) (r : Rule) → Gives P (check_rule before r)
  unfolding check_rule check_dates
  rule-gives before r =
      gives-test P (year_fits before r.year) 8 _ p8
      (gives-test P (date_ok r.standard_date) 10 _ p10
      (gives-test P (date_ok r.daylight_date) 10 _ p10 (gives-test P (dates_match r.standard_date r.daylight_date) 11 _ p11 (gives-last P (biases_ok r) 9 p9))))

  rules-give : (before : Option ℕ) (row : List Rule) → Gives P (check_rules before row)
  unfolding check_rules
  rules-give before [] = tt
  rules-give before (r ∷ row) = gives_then P (check_rule before r) _ (rule-gives before r) (rules-give (Some r.year) row)

  pub row_gives : P 6 → P 12 → (row : List Rule) → Gives P (check_row row)
  unfolding check_row
  row_gives p6 p12 row = gives-test P (within 1 1024 (length row)) 6 _ p6 (gives_then P (check_rules None row) _ (rules-give None row) (gives-last P (eqb (active_rules row) 1) 12 p12))

-- they are numbers of the table
pub rule-known : (before : Option ℕ) (r : Rule) → Known (check_rule before r)
rule-known = rule-gives InTable refl refl refl refl

pub row-known : (row : List Rule) → Known (check_row row)
row-known = row_gives InTable refl refl refl refl refl refl

-- ---- rule after rule
-- what the row comes to, where the rules so far have passed: the year of the last of them, how many were active, and the rules that are left
abbrev pub left_to_check : Option ℕ → ℕ → List Rule → Outcome (Unit {0})
left_to_check before active rest = check_rules before rest >> require (eqb (active + active_rules rest) 1) 12

then-assoc : (a b c : Outcome (Unit {0})) → ((a >> b) >> c) ≡ (a >> (b >> c))
then-assoc (refused n) b c = refl
then-assoc (answered ok) b c = refl

-- a mark as a number
mark : (b : Bool) → cond b 1 0 ≡ bool_byte b
mark true = refl
mark false = refl

-- one rule further
checked-on : (before : Option ℕ) (active : ℕ) (r : Rule) (rest : List Rule)
    → left_to_check before active (r ∷ rest) ≡ (check_rule before r >> left_to_check (Some r.year) (active + bool_byte r.active) rest)
unfolding check_rules active_rules
checked-on before active r rest =
    let e : active + (cond r.active 1 0 + active_rules rest) ≡ active + bool_byte r.active + active_rules rest = let m = mark r.active in omega arith in
    then-assoc (check_rule before r) (check_rules (Some r.year) rest) _
    ∙ ap (λ (n : ℕ). check_rule before r >> (check_rules (Some r.year) rest >> require (eqb n 1) 12)) e

pub none-checked : (row : List Rule) → true ≡ within 1 1024 (length row) → check_row row ≡ left_to_check None 0 row
unfolding check_row
none-checked row e =
    let z : active_rules row ≡ 0 + active_rules row = omega arith in
    rw (← e) (ap (λ (n : ℕ). check_rules None row >> require (eqb n 1) 12) z)

module _ (row : List Rule) (before : Option ℕ) (active i : ℕ) (d : Rule) (left : check_row row ≡ left_to_check before active (drop i row)) where
  next : i < length row → check_row row ≡ (check_rule before (get_or row i d) >> left_to_check (Some (get_or row i d).year) (active + bool_byte (get_or row i d).active) (drop (i + 1) row))
  next h = left ∙ ap (left_to_check before active) (drop_more row i d h) ∙ checked-on before active (get_or row i d) (drop (i + 1) row)

  pub rule-refused : i < length row → (n : ℕ) → refused n ≡ check_rule before (get_or row i d) → refused n ≡ check_row row
  rule-refused h n e = sym (next h ∙ rw (← e))

  pub rule-passed : i < length row → answered tt ≡ check_rule before (get_or row i d)
      → check_row row ≡ left_to_check (Some (get_or row i d).year) (active + bool_byte (get_or row i d).active) (drop (i + 1) row)
  rule-passed h e = next h ∙ rw (← e)

  pub all-passed : length row ≤ i → check_row row ≡ require (eqb active 1) 12
  unfolding check_rules active_rules
  all-passed h = left ∙ rw (drop_all i row h, add-zero active)
