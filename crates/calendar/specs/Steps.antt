-- What inner functions are handed and give. No contract of a call of the library rests on these.
use Rattle.std.specs.Prelude.{ℕ, ◌+◌, ◌*◌, ◌/◌, ◌%◌, Bool, ◌&&◌, ◌||◌, ℤ, pos, negsuc, leb, eqb}
use Rattle.refusal.specs.Outcome.{Outcome, answered, require, ◌>>◌}
use Rattle.days.specs.Months.{days_in_month}
use Rattle.days.specs.Ticks.{millisecond, day}
use Rattle.calendar.specs.declared.fields.TimeFields.{TimeFields}
use Rattle.calendar.specs.declared.fields.DayTime.{DayTime}
use Rattle.calendar.specs.declared.fields.Parts.{Parts}
use Rattle.calendar.specs.Ranges.{within}
use Rattle.calendar.specs.Revisions.{revision12}
use Rattle.calendar.specs.Fields.{last_time, tick_of}

-- the day of a tick and the millisecond of that day
abbrev pub day_time : ℕ → DayTime
day_time t = record { days = t / day; ms = t % day / millisecond }

-- a signed field as an unsigned number: 65535, which is past every field's range, for a negative one
abbrev pub part_of : ℤ → ℕ
part_of (pos n) = n
part_of (negsuc n) = 65535

unfoldable pub parts_of : TimeFields → Parts
parts_of f =
    record {
      year = part_of f.year;
      month = part_of f.month;
      day = part_of f.day;
      hour = part_of f.hour;
      minute = part_of f.minute;
      second = part_of f.second;
      milliseconds = part_of f.milliseconds;
    }

-- a second of 0 to 59, or by revision 1.2 60 at 23:59 on the last day of a month
abbrev pub is_second : ℕ → Parts → Bool
is_second ρ p = within 0 60 p.second && (leb p.second 59 || (eqb ρ revision12 && eqb p.hour 23 && eqb p.minute 59 && eqb p.day (days_in_month p.year p.month)))

unfoldable pub is_formed : ℕ → Parts → Bool
is_formed ρ p =
    within 1601 32767 p.year
    && within 1 12 p.month
    && within 1 (days_in_month p.year p.month) p.day
    && within 0 23 p.hour
    && within 0 59 p.minute
    && within 0 999 p.milliseconds
    && is_second ρ p

-- the milliseconds of a day that a time of day stands for
abbrev pub milliseconds_of : ℕ → ℕ → ℕ → ℕ → ℕ
milliseconds_of h mi s ms = ((h * 60 + mi) * 60 + s) * 1000 + ms

-- a tick as a TIME, or refusal 15
abbrev pub as_time : ℕ → Outcome ℤ
as_time n = require (leb n last_time) 15 >> answered (pos n)

-- the TIME of well-formed parts, or refusal 15
abbrev pub time_of : Parts → Outcome ℤ
time_of p = as_time (tick_of p.year p.month p.day p.hour p.minute p.second p.milliseconds)
