-- The claim over our own examples of local to UTC: what the search over the window finds computes by a law.
use mathlib.Core.Path.{refl}
use Prim.Native.Nat.{◌-◌}
use Rattle.days.specs.Years.{leap, days_in_year, days_of_years, year_from}
use Rattle.days.specs.Months.{days_in_month, days_of_months}
use Rattle.days.specs.Counting.{up_from, keep}
use Rattle.calendar.specs.Fields.{tick_of}
use Rattle.zone.specs.Dates.{valid_date}
use Rattle.zone.specs.Rules.{biases_ok, check_dates, check_rule}
use Rattle.in_force.specs.Switches.{days_with, switch_day, switch_tick}
use Rattle.in_force.specs.Steps.{year_bias, candidates, year_candidates, shown_candidates}
use Rattle.rows.specs.Row.{check_rules, active_rules, check_row}
use Rattle.rows.specs.Search.{not_after, rule_in_force}
use Rattle.local_time.proofs.UtcLaws.{answer-computes}
use Rattle.starred_examples.specs.Sheet.{at, Holds, AllHold}
use Rattle.starred_examples.specs.OwnExamples.{south, new_year, three, west, late}
use Rattle.starred_examples.specs.OwnShown.{meeting, equal_sums, own_shown}

pub own-shown : AllHold own_shown
unfolding AllHold Holds own_shown leap days_in_month days_in_year days_of_years days_of_months year_from up_from keep valid_date biases_ok check_dates check_rule check_rules active_rules check_row days_with switch_day switch_tick year_bias candidates year_candidates shown_candidates not_after rule_in_force
own-shown = (
  answer-computes meeting refl (at 2000 12 31 23 0),
  (
    answer-computes equal_sums refl (at 2023 7 1 12 0),
    (
      answer-computes south refl (at 2023 4 2 2 30),
      (
        answer-computes south refl (at 2023 9 24 2 30),
        (
          answer-computes new_year refl (at 2024 1 1 1 30),
          (
            answer-computes three refl (at 2000 1 1 0 0 - 1),
            (
              answer-computes three refl (at 2000 1 1 0 0),
              (
                answer-computes three refl (at 2004 12 31 23 0),
                (
                  answer-computes three refl (at 2010 1 1 0 0),
                  (
                    answer-computes west refl 315072000000000,
                    (
                      answer-computes west refl 315071999999999,
                      (
                        answer-computes west refl 9223372036854775807,
                        (
                          answer-computes (late 59 999) refl (tick_of 2023 3 26 23 59 59 999 - 1),
                          (
                            answer-computes (late 59 999) refl (tick_of 2023 3 26 23 59 59 999),
                            (
                              answer-computes (late 59 999) refl (tick_of 2023 10 29 22 59 59 999 - 1),
                              (
                                answer-computes (late 59 999) refl (tick_of 2023 10 29 22 59 59 999),
                                tt,
                              ),
                            ),
                          ),
                        ),
                      ),
                    ),
                  ),
                ),
              ),
            ),
          ),
        ),
      ),
    ),
  ),
)
