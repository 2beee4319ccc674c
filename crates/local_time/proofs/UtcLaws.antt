-- The few ticks that could show a local tick are all that do.
use Prim.Native.Nat.{ℕ, ◌+◌, ◌-◌, ◌≤◌}
use mathlib.Core.Path.{◌≡◌, refl, sym, ◌∙◌, ap}
use mathlib.Core.Bool.{◌&&◌}
use mathlib.Core.List.{List, map}
use native.Mathlib.Omega.{arith}
use lib.ListN.{length}
use lib.Dec.{eqb}
use borrow.Author.Tests.{eq-eqb}
use Rattle.std.specs.Prelude.{Option, Some, None}
use Rattle.refusal.specs.Outcome.{answered}
use Rattle.days.specs.Counting.{among}
use Rattle.days.specs.Ticks.{day, year_of, day_in_year}
use Rattle.days.proofs.ticks.YearTicks.{same-year}
use Rattle.days.proofs.Counting.{among_same}
use Rattle.zone.specs.declared.rules.Rule.{Rule}
use Rattle.zone.specs.Ticks.{window_start, window_end, utc_tick, local_tick}
use Rattle.in_force.specs.Biases.{less_bias}
use Rattle.in_force.specs.Shown.{shows_under, year_ticks, shown_ticks}
use Rattle.in_force.specs.Steps.{shown_candidates}
use Rattle.in_force.proofs.shown.WindowLaws.{shown-window}
use Rattle.in_force.proofs.shown.AnswerLaws.{four-at-most}
use Rattle.in_force.proofs.shown.CandidateLaws.{shown-candidates}
use Rattle.rows.specs.Row.{check_row}
use Rattle.rows.specs.Search.{rule_in_force, is_rule, bias_under, bias_in_force}
use Rattle.rows.proofs.SearchLaws.{checked-in-force}
use Rattle.local_time.specs.LocalTime.{shows, local_to_utc}

-- u shows n in the row as it does under the rule in force in its year
pub shows-under : (row : List Rule) (n u : ℕ) → shows row n u ≡ shows_under (rule_in_force row (year_of u)) n u
unfolding shows_under bias_in_force
shows-under row n u = go (rule_in_force row (year_of u))
  where
    go : (o : Option Rule) → (is_rule o && eqb (less_bias u (bias_under o u)) n) ≡ shows_under o n u
    go None = refl
    go (Some r) = refl

module _ (row : List Rule) (ok : check_row row ≡ answered tt) where
  -- THE LAW: the few candidates are all ticks of the window that show the local tick
  pub shown-in-row : (n : ℕ) → shown_ticks (rule_in_force row (year_of (n - day))) (rule_in_force row (year_of (n + day))) n ≡ among (shows row n) window_start window_end
  shown-in-row n =
      shown-window (rule_in_force row) n (λ y. checked-in-force row y ok)
      ∙ among_same (λ u. shows_under (rule_in_force row (year_of u)) n u) (shows row n) window_start window_end (λ u a b. sym (shows-under row n u))

  -- where a day before the local tick is not in the last days of its year, a day after it lies in that year too, and its rule alone counts
  pub one-year : (n : ℕ) → day_in_year (n - day) ≤ 362 → year_of (n + day) ≡ year_of (n - day)
  one-year n h = same-year (n - day) (n + day) h (omega arith) (omega arith)

  pub shown-in-year : (n : ℕ) → day_in_year (n - day) ≤ 362 → year_ticks (rule_in_force row (year_of (n - day))) (year_of (n - day)) n ≡ among (shows row n) window_start window_end
  unfolding shown_ticks
  shown-in-year n h = rw (eq-eqb (year_of (n - day)) (year_of (n + day)) (sym (one-year n h))) at (shown-in-row n)

  -- at most four
  pub at-most-four : (n : ℕ) → length (among (shows row n) window_start window_end) ≤ 4
  at-most-four n = rw (← (shown-in-row n)) (four-at-most _ _ n (checked-in-force row _ ok) (checked-in-force row _ ok))

  -- a local tick's answer is what computes from the few that could show it
  pub answer-computes : (n : ℕ)
      → local_to_utc row (local_tick n) ≡ answered (map utc_tick (shown_candidates (rule_in_force row (year_of (n - day))) (rule_in_force row (year_of (n + day))) n))
  unfolding local_to_utc
  answer-computes n =
      rw ok
      (ap (λ (l : List ℕ). answered (map utc_tick l))
      (sym (shown-candidates (rule_in_force row (year_of (n - day))) (rule_in_force row (year_of (n + day))) n (checked-in-force row _ ok) (checked-in-force row _ ok) ∙ shown-in-row n)))
