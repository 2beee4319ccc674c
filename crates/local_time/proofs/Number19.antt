-- Document 01's table has number 19, a yearly date has no day in that month of that year, and document 02's R-7 takes it out.
-- Here stands UTC to local with document 01's test for it, and the proofs that this never gives 19 and that each of its outcomes is that of the definition without the test.
use Prim.Native.Nat.{ℕ}
use mathlib.Core.Path.{◌≡◌, refl, sym, ap, ◌∙◌}
use mathlib.Core.Bool.{Bool, true, false, not, ◌&&◌, ◌||◌, or-true}
use mathlib.Core.List.{List}
use lib.IntN.{ℤ, pos, negsuc}
use Rattle.std.specs.Prelude.{Option, Some, None}
use Rattle.refusal.specs.Outcome.{Outcome, refused, answered, require, ◌>>=◌, ◌>>◌}
use Rattle.days.specs.Ticks.{year_of}
use Rattle.calendar.specs.Fields.{not_negative}
use Rattle.zone.specs.declared.rules.Rule.{Rule}
use Rattle.zone.specs.declared.ticks.UtcTick.{UtcTick}
use Rattle.zone.specs.declared.ticks.LocalTick.{LocalTick}
use Rattle.zone.specs.Dates.{is_set}
use Rattle.zone.specs.Rules.{check_dates}
use Rattle.zone.specs.Ticks.{local_tick}
use Rattle.in_force.specs.Shown.{Checked}
use Rattle.in_force.specs.Switches.{switch_day, switches_in}
use Rattle.in_force.proofs.CheckedRules.{dated}
use Rattle.in_force.proofs.switches.Occurrences.{present, valid-has-day}
use Rattle.rows.specs.Row.{check_row}
use Rattle.rows.specs.Search.{rule_in_force, has_rule, local_of}
use Rattle.rows.proofs.SearchLaws.{checked-in-force}
use Rattle.local_time.specs.LocalTime.{in_window, utc_to_local}
use Rattle.local_time.proofs.LocalLaws.{after_row}
use Rattle.local_time.proofs.Numbers.{local-gives}

-- each switch date of the rule in year y has a day in its month
abbrev has_switch_days : ℕ → Rule → Bool
has_switch_days y r = not (switches_in y r) || (present (switch_day y r.standard_date) && present (switch_day y r.daylight_date))

abbrev switch_days_under : Option Rule → ℕ → Bool
switch_days_under None u = true
switch_days_under (Some r) u = has_switch_days (year_of u) r

-- the test for 19 at a tick
abbrev pub switch_days_exist : List Rule → ℕ → Bool
switch_days_exist row u = switch_days_under (rule_in_force row (year_of u)) u

-- the row, then 15, 16, 19
abbrev after19 : List Rule → ℤ → Outcome LocalTick
after19 row z = do
  u ← not_negative z
  require (in_window u) 15
  require (has_rule row u) 16
  require (switch_days_exist row u) 19
  answered (local_tick (local_of row u))

abbrev utc_to_local19 : List Rule → UtcTick → Outcome LocalTick
utc_to_local19 row t = check_row row >> after19 row t.0

-- ---- the test always passes
rule-has-days : (y : ℕ) (r : Rule) → check_dates r ≡ answered tt → has_switch_days y r ≡ true
rule-has-days y r e = go (is_set r.standard_date) refl
  where
    go : (c : Bool) → is_set r.standard_date ≡ c → has_switch_days y r ≡ true
    go true h =
        let v = dated r e h in
        ap (λ b. not (switches_in y r) || (b && present (switch_day y r.daylight_date))) (valid-has-day y r.standard_date v.standard_valid)
        ∙ ap (λ b. not (switches_in y r) || b) (valid-has-day y r.daylight_date v.daylight_valid)
        ∙ or-true (not (switches_in y r))
    go false h = rw h

pub row-has-days : (row : List Rule) (u : ℕ) → check_row row ≡ answered tt → switch_days_exist row u ≡ true
row-has-days row u ok = go (rule_in_force row (year_of u)) (checked-in-force row (year_of u) ok)
  where
    go : (o : Option Rule) → Checked o → switch_days_under o u ≡ true
    go None c = refl
    go (Some r) c = rule-has-days (year_of u) r c

-- ---- so nothing changes without it
same_after : (row : List Rule) (z : ℤ) → check_row row ≡ answered tt → after19 row z ≡ after_row row z
same_after row (pos u) ok = rw (row-has-days row u ok)
same_after row (negsuc n) ok = refl

-- THE LAW: every outcome is the same
pub same-local : (row : List Rule) (t : UtcTick) → utc_to_local19 row t ≡ utc_to_local row t
unfolding utc_to_local
same-local row t = go (check_row row) refl
  where
    go : (o : Outcome (Unit {0})) → check_row row ≡ o → utc_to_local19 row t ≡ utc_to_local row t
    go (refused n) e = rw e
    go (answered ok) e = rw e (same_after row t.0 e)

-- THE LAW: 19 is never given
pub local-never-19 : (row : List Rule) (t : UtcTick) → utc_to_local19 row t ≡ refused 19 → ⊥
local-never-19 row t e =
    let q : utc_to_local row t ≡ refused 19 = sym (same-local row t) ∙ e in
    rw q at (local-gives row t)
