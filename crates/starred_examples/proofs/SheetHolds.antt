-- The claims over the sheet of starred examples, by both revisions: each computes. Local to UTC is a search over the window and a run a count of ticks, and what they come to computes by laws.
use mathlib.Core.Path.{refl}
use mathlib.Core.List.{List, [], ◌∷◌, ◌++◌}
use Rattle.days.specs.Years.{leap, days_in_year, days_of_years, year_from}
use Rattle.days.specs.Months.{days_in_month, days_of_months}
use Rattle.days.specs.Dates.{date_from}
use Rattle.days.specs.Counting.{up_from, keep}
use Rattle.calendar.specs.Fields.{fields_of, fields_to_time}
use Rattle.zone.specs.Dates.{valid_date}
use Rattle.zone.specs.Rules.{biases_ok, check_dates, check_rule}
use Rattle.in_force.specs.Switches.{days_with, switch_day, switch_tick}
use Rattle.in_force.specs.RuleBias.{is_daylight, bias_of}
use Rattle.in_force.specs.Stretches.{sooner_after, stretch_end, stretch_in}
use Rattle.in_force.specs.Steps.{year_bias, candidates, year_candidates, shown_candidates}
use Rattle.rows.specs.Row.{check_rules, active_rules, check_row}
use Rattle.rows.specs.Search.{not_after, rule_in_force}
use Rattle.rows.specs.Stretches.{stretch_at}
use Rattle.local_time.proofs.UtcLaws.{answer-computes}
use Rattle.tally.specs.Tallies.{fresh, in_span, holds}
use Rattle.starred_examples.specs.Sheet.{at, zone_p, Example, Holds, AllHold, times_by, zones_and_runs, times12, sheet, times10, sheet10}
use Rattle.starred_examples.proofs.RunLaws.{book-computes}

both_hold : (l m : List Example) → AllHold l → AllHold m → AllHold (l ++ m)
unfolding AllHold
both_hold [] m h k = k
both_hold (e ∷ l) m h k = (h.0, both_hold l m h.1 k)

times12-hold : AllHold times12
unfolding AllHold Holds times_by times12 fields_of fields_to_time leap days_in_month days_in_year days_of_years days_of_months year_from date_from
times12-hold = (refl, (refl, (refl, (refl, (refl, (refl, (refl, (refl, (refl, (refl, (refl, (refl, (refl, tt)))))))))))))

times10-hold : AllHold times10
unfolding AllHold Holds times_by times10 fields_of fields_to_time leap days_in_month days_in_year days_of_years days_of_months year_from date_from
times10-hold = (refl, (refl, (refl, (refl, (refl, (refl, (refl, (refl, (refl, (refl, (refl, (refl, (refl, (refl, tt))))))))))))))

zones-and-runs-hold : AllHold zones_and_runs
unfolding AllHold Holds zones_and_runs leap days_in_month days_in_year days_of_years days_of_months year_from date_from up_from keep valid_date biases_ok check_dates check_rule check_rules active_rules check_row days_with switch_day switch_tick year_bias candidates year_candidates shown_candidates is_daylight bias_of sooner_after stretch_end stretch_in not_after rule_in_force stretch_at fresh in_span holds
zones-and-runs-hold = (answer-computes zone_p refl (at 2023 3 26 2 30), (answer-computes zone_p refl (at 2023 10 29 2 30), (book-computes zone_p refl fresh (at 2023 3 25 23 0) (at 2023 3 26 1 0 ∷ at 2023 3 26 22 0 ∷ []) refl refl refl, (book-computes zone_p refl fresh (at 2023 10 28 22 0) (at 2023 10 29 1 0 ∷ at 2023 10 29 23 0 ∷ []) refl refl refl, tt))))

pub sheet-holds : AllHold sheet
unfolding sheet
sheet-holds = both_hold times12 zones_and_runs times12-hold zones-and-runs-hold

pub sheet10-holds : AllHold sheet10
unfolding sheet10
sheet10-holds = both_hold times10 zones_and_runs times10-hold zones-and-runs-hold
