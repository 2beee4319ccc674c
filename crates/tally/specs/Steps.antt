-- What the steps of a booking give. Of the public contracts `ask` names the record of a booking here, and `book_on` says that it answers as the steps do, beside the definition, to which laws show that they come.
use Rattle.std.specs.Prelude.{ℕ, min, ◌+◌, ◌-◌, ◌≤◌, ◌<◌, ◌≡◌, ◌&&◌, cond, List, length, get_or, leb, ltb, Option, Some, None, Result, Ok, Err}
use Rattle.refusal.specs.Outcome.{Outcome, require, ◌>>◌}
use Rattle.refusal.specs.declared.Refusal.TheVariants.{OutOfRange, BeforeFirstRule, RunOrder, BadTally}
use Rattle.refusal.specs.declared.Refusal.{Refusal}
use Rattle.days.specs.Ticks.{year_of, year_tick, weekday_of}
use Rattle.totals.specs.Totals.{sum, grown}
use Rattle.struct_slices.specs.Guarded.{guarded}
use Rattle.zone.specs.declared.rules.Rule.{Rule}
use Rattle.zone.specs.declared.ticks.UtcTick.{UtcTick}
use Rattle.zone.specs.Ticks.{window_start, window_end}
use Rattle.in_force.specs.declared.rule_bias.YearBias.{YearBias}
use Rattle.in_force.specs.Biases.{less_bias}
use Rattle.in_force.specs.Steps.{bias_at}
use Rattle.rows.specs.Search.{rule_in_force}
use Rattle.rows.specs.Steps.{checked_row}
use Rattle.rows.specs.Years.{year_in_force}
use Rattle.local_time.specs.Steps.{is_refused}
use Rattle.tally.specs.declared.tallies.Tally.{Tally}
use Rattle.tally.specs.declared.tallies.Answer.{Answer}
use Rattle.tally.specs.declared.booking.Booking.{Booking}
use Rattle.tally.specs.declared.booking.Walk.{Walk}
use Rattle.tally.specs.Tallies.{seven, at, in_span, holds}
use Rattle.tally.specs.Booking.{local_weekday, check_run}

abbrev pub asked : Tally → UtcTick → UtcTick → Booking
asked t a b = record { tally = t; from = a; to = b }

-- ---- the checks
abbrev pub row_check : List Rule → Booking → Result (Unit {0}) Refusal
row_check row k = checked_row row

abbrev pub rule_check : Option Rule → Result (Unit {0}) Refusal
rule_check (Some r) = Ok tt
rule_check None = Err BeforeFirstRule

-- 18, 15, 17, 16, test by test
unfoldable pub run_check : Option Rule → Booking → Result (Unit {0}) Refusal
run_check f k =
    cond (holds k.tally)
    (cond (in_span k.from && in_span k.to)
    (cond (leb (at k.from) (at k.to) && leb (at k.tally.end) (at k.from)) (rule_check f) (Err RunOrder))
    (Err OutOfRange))
    (Err BadTally)

abbrev pub run_check_in : List Rule → Booking → Result (Unit {0}) Refusal
run_check_in row k = run_check (rule_in_force row (year_of (at k.from))) k

-- the same as an outcome
abbrev pub run_checks : List Rule → Booking → Outcome (Unit {0})
run_checks row k = require (holds k.tally) 18 >> check_run row k.tally.end k.from k.to

-- ---- the walk
-- seven totals, as every tally has
unfoldable pub seven_of : List ℕ → List ℕ
seven_of totals = seven (λ w. get_or totals w 0)

abbrev pub begun : Booking → Walk
begun k = record { at = at k.from; to = at k.to; year = year_of (at k.from); totals = seven_of k.tally.totals }

-- What a walk keeps to: it is inside the window, in its year while there is something left, has seven totals, and what is left can be added to them.
pub record Walking (w : Walk) : Type 0 where
  pub low : window_start ≤ w.at
  pub left : w.at ≤ w.to
  pub high : w.to ≤ window_end
  pub in_year : w.at < w.to → year_of w.at ≡ w.year
  pub seven : length w.totals ≡ 7
  pub room : sum w.totals + (w.to - w.at) ≤ 18446744073709551615

-- the local weekday of a tick of a year
abbrev pub weekday_in : YearBias → ℕ → ℕ
weekday_in k u = weekday_of (less_bias u (bias_at k u))

-- to the end of the year, or of the run if that is sooner
unfoldable pub stepped : YearBias → Walk → Walk
stepped k w =
    let end : ℕ = min (year_tick (w.year + 1)) w.to in
    record { at = end; to = w.to; year = w.year + 1; totals = grown 7 (weekday_in k) w.totals w.at end }

abbrev pub stepped_in : List Rule → Walk → Walk
stepped_in row w = stepped (year_in_force row w.year) w

-- the year after that of the last tick, where there is one left
abbrev pub end_year : Walk → ℕ
end_year w = cond (ltb w.at w.to) (year_of (w.to - 1) + 1) w.year

-- at the end of the run
unfoldable pub walked : List Rule → Walk → Walk
walked row w =
    record { at = w.to; to = w.to; year = end_year w; totals = grown 7 (local_weekday row) w.totals w.at w.to }

-- what the walk answers
unfoldable pub closed : Walk → Booking → Answer
closed w k = record { check = Ok tt; tally = record { end = k.to; totals = w.totals } }

abbrev pub walked_in : List Rule → Booking → Answer
walked_in row k = closed (walked row (begun k)) k

-- ---- the whole: the row's checks, the run's, and the walk
abbrev pub book_refused : Result (Unit {0}) Refusal → Booking → Answer
book_refused c k = record { check = c; tally = k.tally }

abbrev pub booked_in : List Rule → Booking → Answer
booked_in row k = guarded run_check_in is_refused book_refused walked_in row k

abbrev pub booked_on : List Rule → Booking → Answer
booked_on row k = guarded row_check is_refused book_refused booked_in row k
