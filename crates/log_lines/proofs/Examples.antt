-- Lines with what they say, as one list with one claim: a change of the definitions is noticed here.
use Prim.Native.String.{String}
use mathlib.Core.Path.{◌≡◌, refl}
use mathlib.Core.List.{List, [], ◌∷◌, map}
use Rattle.std.specs.Prelude.{Option, Some, None, Result, Ok, Err}
use Rattle.refusal.specs.declared.Refusal.TheVariants.{IllFormedFields, OutOfRange}
use Rattle.days.specs.Years.{leap, days_in_year, days_of_years}
use Rattle.days.specs.Months.{days_in_month, days_of_months}
use Rattle.calendar.specs.Fields.{fields_to_time}
use Rattle.zone.specs.Ticks.{utc_tick}
use Rattle.ascii.specs.Text.{ascii}
use Rattle.time_text.specs.Decimal.{all_digits, value_of, decimal_of}
use Rattle.time_text.specs.Number.{number_time}
use Rattle.time_text.specs.Clock.{matches, number_at, clock_fields, fraction_ticks, later, clock_outcome, clock_time}
use Rattle.time_text.specs.Times.{utc_time}
use Rattle.zone.specs.declared.ticks.UtcTick.{UtcTick}
use Rattle.log_lines.specs.declared.faults.Fault.{Fault}
use Rattle.log_lines.specs.declared.faults.Fault.TheVariants.{Refused, NotATime, NotTwoTimes}
use Rattle.log_lines.specs.Lines.{take_while, drop_while, log_line}

abbrev Line : Type 0
Line = String × Result (Option (UtcTick × UtcTick)) Fault

abbrev lines : List Line
lines =
    ("", Ok None)
    ∷ (" \t\r", Ok None)
    ∷ ("# 0 1", Ok None)
    ∷ ("0 1", Ok (Some (utc_tick 0, utc_tick 1)))
    ∷ ("\t2023-03-26T00:00:00Z  133242660000000000 # to 01:00\r", Ok (Some (utc_tick 133242624000000000, utc_tick 133242660000000000)))
    ∷ ("0 1#2", Ok (Some (utc_tick 0, utc_tick 1)))
    ∷ ("0", Err NotTwoTimes)
    ∷ ("0 #1", Err NotTwoTimes)
    ∷ ("0 1 2", Err NotTwoTimes)
    ∷ ("x 1 2", Err NotTwoTimes)
    -- the first word's fault, then the second's
    ∷ ("x 1900-02-29T00:00:00Z", Err NotATime)
    ∷ ("1900-02-29T00:00:00Z x", Err (Refused IllFormedFields))
    ∷ ("0 x", Err NotATime)
    ∷ ("0 32768-01-01T00:00:00Z", Err (Refused OutOfRange))
    ∷ []

pub all_lines : map (λ e. log_line (ascii e.0)) lines ≡ map (λ e. e.1) lines
unfolding log_line take_while drop_while utc_time number_time decimal_of all_digits value_of clock_time matches number_at clock_fields fraction_ticks later clock_outcome fields_to_time leap days_in_year days_of_years days_in_month days_of_months
all_lines = refl
