-- Document 01's starred examples, as a single list. `Holds` says what each claims, and `AllHold sheet` is the single claim over the list.
-- `sheet10` is the same list by revision 1.0 of the time paper, with the two changes of document 02 (R-9).
use Rattle.std.specs.Prelude.{ℕ, ◌≡◌, Bool, true, List, [], ◌∷◌, ◌++◌, map, ℤ, pos, negsuc}
use Rattle.refusal.specs.Outcome.{Outcome, refused, answered}
use Rattle.calendar.specs.declared.fields.TimeFields.{TimeFields}
use Rattle.calendar.specs.Revisions.{revision10, revision12}
use Rattle.calendar.specs.Absolute.{is_absolute}
use Rattle.calendar.specs.Fields.{tick_of, time_to_fields, fields_to_time}
use Rattle.zone.specs.declared.dates.SystemTime.{SystemTime}
use Rattle.zone.specs.declared.rules.Rule.{Rule}
use Rattle.zone.specs.Ticks.{utc_tick, local_tick}
use Rattle.local_time.specs.LocalTime.{local_to_utc}
use Rattle.tally.specs.declared.tallies.Tally.{Tally}
use Rattle.tally.specs.Tallies.{fresh}
use Rattle.tally.specs.Booking.{book}

-- year, month, day, hour, minute, second, milliseconds, weekday (Sunday is 0)
abbrev pub fields : ℕ → ℕ → ℕ → ℕ → ℕ → ℕ → ℕ → ℕ → TimeFields
fields y m d h mi s ms w =
    record { year = pos y; month = pos m; day = pos d; hour = pos h; minute = pos mi; second = pos s; milliseconds = pos ms; weekday = pos w }

-- the tick of a minute
abbrev pub at : ℕ → ℕ → ℕ → ℕ → ℕ → ℕ
at y m d h mi = tick_of y m d h mi 0 0

-- every year, the last Sunday of month m at hour h
abbrev pub last_sunday : ℕ → ℕ → SystemTime
last_sunday m h = record { year = 0; month = m; weekday = 0; day = 5; hour = h; minute = 0; second = 0; millisecond = 0 }

-- zone P: Bias -60, StandardBias 0, DaylightBias -60; standard from the last Sunday of October 03:00, daylight from the last Sunday of March 02:00
abbrev pub zone_p : List Rule
zone_p =
    record {
      year = 0;
      active = true;
      bias = negsuc 59;
      standard_bias = pos 0;
      daylight_bias = negsuc 59;
      standard_date = last_sunday 10 3;
      daylight_date = last_sunday 3 2;
    }
    ∷ []

pub data Example : Type 0 where
  -- by a revision, a TIME shows fields
  shows : ℕ → ℕ → TimeFields → Example
  -- by a revision, fields give a TIME, or a refusal
  gives : ℕ → TimeFields → Outcome ℤ → Example
  -- by a revision, a TIME is absolute, or is not
  absolute : ℕ → ℤ → Bool → Example
  -- in a row of rules, a local tick is shown by these UTC ticks
  shown_by : List Rule → ℕ → List ℕ → Example
  -- in a row of rules, a run booked on a tally makes its totals these
  adds : List Rule → Tally → ℕ → ℕ → List ℕ → Example

unfoldable pub Holds : Example → Type 0
Holds (shows ρ t f) = time_to_fields ρ (pos t) ≡ answered f
Holds (gives ρ f o) = fields_to_time ρ f ≡ o
Holds (absolute ρ t b) = is_absolute ρ t ≡ answered b
Holds (shown_by row l us) = local_to_utc row (local_tick l) ≡ answered (map utc_tick us)
Holds (adds row t a b totals) = book row t (utc_tick a) (utc_tick b) ≡ answered (record { end = utc_tick b; totals = totals })

unfoldable pub AllHold : List Example → Type 0
AllHold [] = Unit {0}
AllHold (e ∷ l) = Holds e × AllHold l

-- TIME and fields by revision ρ, which says second60 of 2016-12-31 23:59:60
unfoldable pub times_by : ℕ → Outcome ℤ → List Example
times_by ρ second60 =
    -- TIME 0 is Monday 1601-01-01 00:00:00.000; 9999 shows the same, 10000 shows .001
    shows ρ 0 (fields 1601 1 1 0 0 0 0 1)
    ∷ shows ρ 9999 (fields 1601 1 1 0 0 0 0 1)
    ∷ shows ρ 10000 (fields 1601 1 1 0 0 0 1 1)
    -- 1989-08-29 11:08:30.245 is TIME 122648657102450000, a Tuesday
    ∷ shows ρ 122648657102450000 (fields 1989 8 29 11 8 30 245 2)
    ∷ gives ρ (fields 1989 8 29 11 8 30 245 2) (answered (pos 122648657102450000))
    -- the last TIME shows 30828-09-14 02:48:05.477, a Thursday; that millisecond is expressible, .478 is not
    ∷ shows ρ 9223372036854775807 (fields 30828 9 14 2 48 5 477 4)
    ∷ gives ρ (fields 30828 9 14 2 48 5 477 4) (answered (pos 9223372036854770000))
    ∷ gives ρ (fields 30828 9 14 2 48 5 478 4) (refused 15)
    -- 1900-02-29 is refused with 14; 2000-02-29 is not
    ∷ gives ρ (fields 1900 2 29 0 0 0 0 0) (refused 14)
    ∷ gives ρ (fields 2000 2 29 0 0 0 0 0) (answered (pos 125962560000000000))
    -- 2016-12-31 23:59:60 equals 2017-01-01 00:00:00, by 1.2; 2016-12-30 23:59:60 gives 14
    ∷ gives ρ (fields 2016 12 31 23 59 60 0 0) second60
    ∷ gives ρ (fields 2017 1 1 0 0 0 0 0) (answered (pos 131277024000000000))
    ∷ gives ρ (fields 2016 12 30 23 59 60 0 0) (refused 14)
    ∷ []

-- zones and runs, which take no revision
unfoldable pub zones_and_runs : List Example
zones_and_runs =
    -- in P, 2023-03-26 02:30 local has no UTC; 2023-10-29 02:30 has two, 00:30 and 01:30
    shown_by zone_p (at 2023 3 26 2 30) []
    ∷ shown_by zone_p (at 2023 10 29 2 30) (at 2023 10 29 0 30 ∷ at 2023 10 29 1 30 ∷ [])
    -- in P, a run over local Sunday 2023-03-26 adds 828000000000 to Sunday; 2023-10-29 adds 900000000000
    ∷ adds zone_p fresh (at 2023 3 25 23 0) (at 2023 3 26 22 0) (828000000000 ∷ 0 ∷ 0 ∷ 0 ∷ 0 ∷ 0 ∷ 0 ∷ [])
    ∷ adds zone_p fresh (at 2023 10 28 22 0) (at 2023 10 29 23 0) (900000000000 ∷ 0 ∷ 0 ∷ 0 ∷ 0 ∷ 0 ∷ 0 ∷ [])
    ∷ []

unfoldable pub times12 : List Example
times12 = times_by revision12 (answered (pos 131277024000000000))

unfoldable pub sheet : List Example
sheet = times12 ++ zones_and_runs

-- by revision 1.0 second 60 gives 14, and TIME 0 is absolute
unfoldable pub times10 : List Example
times10 = absolute revision10 (pos 0) true ∷ times_by revision10 (refused 14)

unfoldable pub sheet10 : List Example
sheet10 = times10 ++ zones_and_runs
