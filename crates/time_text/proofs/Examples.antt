-- Texts with what they say, as four lists with one claim each: a change of the definitions is noticed here.
use Prim.Native.Nat.{ℕ}
use Prim.Native.String.{String}
use mathlib.Core.Path.{◌≡◌, refl}
use mathlib.Core.List.{List, [], ◌∷◌, map}
use lib.IntN.{ℤ, pos, negsuc}
use Rattle.std.specs.Prelude.{Result, Ok, Err}
use Rattle.refusal.specs.declared.Refusal.TheVariants.{IllFormedFields, OutOfRange, UnknownRevision}
use Rattle.days.specs.Years.{leap, days_in_year, days_of_years}
use Rattle.days.specs.Months.{days_in_month, days_of_months}
use Rattle.calendar.specs.Revisions.{revision10, revision12}
use Rattle.calendar.specs.Fields.{fields_to_time}
use Rattle.time_text.specs.declared.faults.TextFault.{TextFault}
use Rattle.time_text.specs.declared.faults.TextFault.TheVariants.{Refused, NotATime}
use Rattle.ascii.specs.Text.{ascii}
use Rattle.time_text.specs.Decimal.{all_digits, value_of, decimal_of}
use Rattle.time_text.specs.Number.{number_time}
use Rattle.time_text.specs.Revision.{revision_number}
use Rattle.time_text.specs.Clock.{matches, number_at, clock_fields, fraction_ticks, later, clock_outcome, clock_time}
use Rattle.time_text.specs.Times.{utc_time, local_time}

abbrev Example : Type 0
Example = String × Result ℤ TextFault

-- ---- times of UTC
abbrev utc_texts : List Example
utc_texts =
    -- source document 004's example, and a switch of zone P
    ("1989-08-29T11:08:30.245Z", Ok (pos 122648657102450000))
    ∷ ("2023-03-26T00:00:00Z", Ok (pos 133242624000000000))
    -- the last TIME, as a number and on the clock; one tick more
    ∷ ("9223372036854775807", Ok (pos 9223372036854775807))
    ∷ ("30828-09-14T02:48:05.4775807Z", Ok (pos 9223372036854775807))
    ∷ ("9223372036854775808", Err NotATime)
    ∷ ("30828-09-14T02:48:05.4775808Z", Err (Refused OutOfRange))
    -- the first one; one tick before it
    ∷ ("-9223372036854775808", Ok (negsuc 9223372036854775807))
    ∷ ("-9223372036854775809", Err NotATime)
    -- zero, and leading zeros
    ∷ ("-0", Ok (pos 0))
    ∷ ("0001601-01-01T00:00:00Z", Err NotATime)
    ∷ ("00000000000000000000000000001", Ok (pos 1))
    -- no leap day; a leap second; second 60 at another minute
    ∷ ("1900-02-29T00:00:00Z", Err (Refused IllFormedFields))
    ∷ ("2016-12-31T23:59:60Z", Ok (pos 131277024000000000))
    ∷ ("2016-12-31T23:58:60Z", Err (Refused IllFormedFields))
    -- a year that no field holds; the year before the first
    ∷ ("32768-01-01T00:00:00Z", Err (Refused OutOfRange))
    ∷ ("1600-12-31T23:59:59Z", Err (Refused IllFormedFields))
    -- no digit and eight digits of a fraction; another form; no Z
    ∷ ("2023-03-26T00:00:00.Z", Err NotATime)
    ∷ ("2023-03-26T00:00:00.12345678Z", Err NotATime)
    ∷ ("2023-3-26T00:00:00Z", Err NotATime)
    ∷ ("2023-03-26t00:00:00Z", Err NotATime)
    ∷ ("2023-03-26T00:00:00", Err NotATime)
    ∷ ("Z", Err NotATime)
    ∷ ("-", Err NotATime)
    ∷ ("", Err NotATime)
    ∷ []

pub utc-texts : map (λ e. utc_time revision12 (ascii e.0)) utc_texts ≡ map (λ e. e.1) utc_texts
unfolding utc_time number_time decimal_of all_digits value_of clock_time matches number_at clock_fields fraction_ticks later clock_outcome fields_to_time leap days_in_year days_of_years days_in_month days_of_months
utc-texts = refl

-- ---- the same by other revisions
abbrev other_texts : List (ℕ × String × Result ℤ TextFault)
other_texts =
    -- second 60, also after the last TIME; anything else as by 1.2, a year that no field holds too
    (revision10, "2016-12-31T23:59:60Z", Err (Refused IllFormedFields))
    ∷ (revision10, "30828-09-30T23:59:60Z", Err (Refused IllFormedFields))
    ∷ (revision12, "30828-09-30T23:59:60Z", Err (Refused OutOfRange))
    ∷ (revision10, "2016-12-31T23:59:59.9999999Z", Ok (pos 131277023999999999))
    ∷ (revision10, "32768-01-01T00:00:00Z", Err (Refused OutOfRange))
    ∷ (revision10, "-1", Ok (negsuc 0))
    -- another number, before every other check of a clock text; a number has nothing of a revision in it
    ∷ (11, "2016-12-31T23:59:59Z", Err (Refused UnknownRevision))
    ∷ (11, "32768-01-01T00:00:00Z", Err (Refused UnknownRevision))
    ∷ (11, "1900-02-29T00:00:00Z", Err (Refused UnknownRevision))
    ∷ (11, "2023-3-26T00:00:00Z", Err NotATime)
    ∷ (11, "-1", Ok (negsuc 0))
    ∷ []

pub other-texts : map (λ e. utc_time e.0 (ascii e.1)) other_texts ≡ map (λ e. e.2) other_texts
unfolding utc_time number_time decimal_of all_digits value_of clock_time matches number_at clock_fields fraction_ticks later clock_outcome fields_to_time leap days_in_year days_of_years days_in_month days_of_months
other-texts = refl

-- ---- local times
abbrev local_texts : List Example
local_texts =
    ("2023-03-26T00:00:00", Ok (pos 133242624000000000))
    ∷ ("133242624000000000", Ok (pos 133242624000000000))
    ∷ ("-1", Ok (negsuc 0))
    ∷ ("1900-02-29T00:00:00", Err (Refused IllFormedFields))
    ∷ ("2023-03-26T00:00:00Z", Err NotATime)
    ∷ []

pub local-texts : map (λ e. local_time (ascii e.0)) local_texts ≡ map (λ e. e.1) local_texts
unfolding number_time decimal_of all_digits value_of clock_time matches number_at clock_fields fraction_ticks later clock_outcome fields_to_time leap days_in_year days_of_years days_in_month days_of_months
local-texts = refl

-- ---- numbers of revisions
abbrev revision_texts : List (String × ℕ)
revision_texts =
    ("10", revision10)
    ∷ ("12", revision12)
    ∷ ("0012", revision12)
    ∷ ("11", 11)
    ∷ ("4294967295", 4294967295)
    -- 10 more than 2^32, and 12 more than 2^64; another form
    ∷ ("4294967306", 0)
    ∷ ("18446744073709551628", 0)
    ∷ ("1.2", 0)
    ∷ ("-12", 0)
    ∷ ("", 0)
    ∷ []

pub revision-texts : map (λ e. revision_number (ascii e.0)) revision_texts ≡ map (λ e. e.1) revision_texts
unfolding decimal_of all_digits value_of
revision-texts = refl
