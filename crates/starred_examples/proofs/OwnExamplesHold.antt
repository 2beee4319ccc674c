-- The claim over our own examples of UTC to local: each computes.
use mathlib.Core.Path.{refl}
use Rattle.days.specs.Years.{leap, days_in_year, days_of_years, year_from}
use Rattle.days.specs.Months.{days_in_month, days_of_months}
use Rattle.days.specs.Counting.{up_from, keep}
use Rattle.zone.specs.Dates.{valid_date}
use Rattle.zone.specs.Rules.{biases_ok, check_dates, check_rule}
use Rattle.in_force.specs.Switches.{days_with, switch_day, switch_tick}
use Rattle.in_force.specs.RuleBias.{is_daylight, bias_of}
use Rattle.rows.specs.Row.{check_rules, active_rules, check_row}
use Rattle.rows.specs.Search.{not_after, rule_in_force, bias_in_force}
use Rattle.local_time.specs.LocalTime.{utc_to_local}
use Rattle.starred_examples.specs.OwnExamples.{AllAnswered, examples}

pub examples-answered : AllAnswered examples
unfolding AllAnswered examples utc_to_local leap days_in_month days_in_year days_of_years days_of_months year_from up_from keep valid_date biases_ok check_dates check_rule check_rules active_rules check_row days_with switch_day switch_tick is_daylight bias_of not_after rule_in_force bias_in_force
examples-answered = refl
