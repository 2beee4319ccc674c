-- TIME and its fields, by source document 004, revisions 1.2 and 1.0 (document 02, R-9), and document 01.
use Rattle.std.specs.Prelude.{ℕ, ◌+◌, ◌*◌, ◌/◌, ◌%◌, ◌&&◌, ◌||◌, ℤ, pos, negsuc, leb, eqb}
use Rattle.refusal.specs.Outcome.{Outcome, refused, answered, require, ◌>>=◌, ◌>>◌}
use Rattle.days.specs.declared.dates.Date.{Date}
use Rattle.days.specs.Months.{days_in_month}
use Rattle.days.specs.Dates.{date_of, day_number}
use Rattle.days.specs.Ticks.{millisecond, second, minute, hour, day, weekday_of}
use Rattle.calendar.specs.declared.fields.TimeFields.{TimeFields}
use Rattle.calendar.specs.Ranges.{within}
use Rattle.calendar.specs.Revisions.{revision12, check_revision}

-- the last TIME: the greatest signed 64-bit number
abbrev pub last_time : ℕ
last_time = 9223372036854775807

-- a TIME that is not negative, or refusal 15
abbrev pub not_negative : ℤ → Outcome ℕ
not_negative (pos t) = answered t
not_negative (negsuc n) = refused 15

-- The fields of a tick. Parts under a millisecond are dropped.
unfoldable pub fields_of : ℕ → TimeFields
fields_of t =
    let d : Date = date_of (t / day) in
    record {
      year = pos d.year;
      month = pos d.month;
      day = pos d.day;
      hour = pos (t / hour % 24);
      minute = pos (t / minute % 60);
      second = pos (t / second % 60);
      milliseconds = pos (t / millisecond % 1000);
      weekday = pos (weekday_of t);
    }

-- TIME to fields: 22 for another revision, then 15 for a negative TIME; fields for every TIME from 0 up.
abbrev pub time_to_fields : ℕ → ℤ → Outcome TimeFields
time_to_fields ρ t = do
  check_revision ρ
  n ← not_negative t
  answered (fields_of n)

-- a signed field that is a number from lo to hi, or refusal 14
abbrev pub in_range : ℕ → ℕ → ℤ → Outcome ℕ
in_range lo hi (pos n) = require (within lo hi n) 14 >> answered n
in_range lo hi (negsuc n) = refused 14

-- the tick of a date and a time of day. So 23:59:60.mmm is 00:00:00.mmm on the next day.
abbrev pub tick_of : ℕ → ℕ → ℕ → ℕ → ℕ → ℕ → ℕ → ℕ
tick_of y m d h mi s ms = day_number y m d * day + h * hour + mi * minute + s * second + ms * millisecond

-- Fields to TIME: 22 for another revision, then 14 where they are ill formed, then 15 where the TIME is not expressible. The weekday is ignored.
-- A year is 1601 or later; no field holds more than 32767.
unfoldable pub fields_to_time : ℕ → TimeFields → Outcome ℤ
fields_to_time ρ f = do
  check_revision ρ
  y ← in_range 1601 32767 f.year
  m ← in_range 1 12 f.month
  d ← in_range 1 (days_in_month y m) f.day
  h ← in_range 0 23 f.hour
  mi ← in_range 0 59 f.minute
  ms ← in_range 0 999 f.milliseconds
  s ← in_range 0 60 f.second
  -- second 60 only by revision 1.2, at 23:59 on the last day of a month
  require (leb s 59 || (eqb ρ revision12 && eqb h 23 && eqb mi 59 && eqb d (days_in_month y m))) 14
  require (leb (tick_of y m d h mi s ms) last_time) 15
  answered (pos (tick_of y m d h mi s ms))
