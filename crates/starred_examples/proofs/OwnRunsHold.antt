-- The claim over our own runs: each computes by the law of runs that are cut where the bias or the local day changes.
use mathlib.Core.Path.{refl}
use mathlib.Core.List.{[], ◌∷◌}
use Rattle.days.specs.Years.{leap, days_in_year, days_of_years, year_from}
use Rattle.days.specs.Months.{days_in_month, days_of_months}
use Rattle.days.specs.Counting.{up_from, keep}
use Rattle.calendar.specs.Fields.{tick_of}
use Rattle.zone.specs.Dates.{valid_date}
use Rattle.zone.specs.Rules.{biases_ok, check_dates, check_rule}
use Rattle.in_force.specs.Switches.{days_with, switch_day, switch_tick}
use Rattle.in_force.specs.RuleBias.{is_daylight, bias_of}
use Rattle.in_force.specs.Stretches.{sooner_after, stretch_end, stretch_in}
use Rattle.rows.specs.Row.{check_rules, active_rules, check_row}
use Rattle.rows.specs.Search.{not_after, rule_in_force}
use Rattle.rows.specs.Stretches.{stretch_at}
use Rattle.tally.specs.Tallies.{fresh, in_span, holds}
use Rattle.starred_examples.specs.Sheet.{at, zone_p, Holds, AllHold}
use Rattle.starred_examples.specs.OwnExamples.{south, new_year, late}
use Rattle.starred_examples.specs.OwnRuns.{tally, own_run_claims}
use Rattle.starred_examples.proofs.RunLaws.{book-computes}

pub own_runs : AllHold own_run_claims
unfolding AllHold Holds own_run_claims leap days_in_month days_in_year days_of_years days_of_months year_from up_from keep valid_date biases_ok check_dates check_rule check_rules active_rules check_row days_with switch_day switch_tick is_daylight bias_of sooner_after stretch_end stretch_in not_after rule_in_force stretch_at fresh in_span holds
own_runs = (
  book-computes zone_p refl fresh (at 2023 7 1 21 0) (at 2023 7 1 22 0 ∷ at 2023 7 1 23 30 ∷ []) refl refl refl,
  (
    book-computes zone_p refl fresh (at 2023 7 1 21 0) (at 2023 7 1 22 0 ∷ at 2023 7 1 23 0 ∷ []) refl refl refl,
    (
      book-computes zone_p refl (tally (at 2023 7 1 23 0) (36000000000 ∷ 0 ∷ 0 ∷ 0 ∷ 0 ∷ 0 ∷ 36000000000 ∷ [])) (at 2023 7 1 23 0) (at 2023 7 1 23 30 ∷ []) refl refl refl,
      (
        book-computes zone_p refl (tally (at 2023 7 1 23 0) (36000000000 ∷ 0 ∷ 0 ∷ 0 ∷ 0 ∷ 0 ∷ 36000000000 ∷ [])) (at 2023 7 2 12 0) [] refl refl refl,
        (
          book-computes south refl fresh (at 2023 4 1 11 0) (at 2023 4 1 14 0 ∷ at 2023 4 2 12 0 ∷ []) refl refl refl,
          (
            book-computes south refl fresh (at 2023 9 23 12 0) (at 2023 9 23 14 0 ∷ at 2023 9 24 11 0 ∷ []) refl refl refl,
            (
              book-computes new_year refl fresh (at 2023 12 31 23 0) (at 2024 1 1 0 0 ∷ at 2024 1 1 22 0 ∷ []) refl refl refl,
              (
                book-computes (late 59 999) refl fresh (at 2023 3 25 23 0) (tick_of 2023 3 26 22 59 59 999 ∷ at 2023 3 26 23 0 ∷ []) refl refl refl,
                (
                  book-computes (late 59 999) refl fresh (at 2023 10 28 22 0) (tick_of 2023 10 29 21 59 59 999 ∷ at 2023 10 29 23 0 ∷ []) refl refl refl,
                  tt,
                ),
              ),
            ),
          ),
        ),
      ),
    ),
  ),
)
