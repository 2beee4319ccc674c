-- A switch date: when a rule goes over to standard or to daylight time, told in local time.
use Rattle.std.specs.Prelude.{ℕ, ◌≡◌, Bool, true, false, cond, not, ◌&&◌, ◌||◌, eqb}
use Rattle.days.specs.Months.{days_in_month}
use Rattle.calendar.specs.Ranges.{within}
use Rattle.zone.specs.declared.dates.SystemTime.{SystemTime}

-- Month 0 means not set. Year 0 means every year, another year once.
abbrev pub is_set : SystemTime → Bool
is_set d = not (eqb d.month 0)

abbrev pub is_yearly : SystemTime → Bool
is_yearly d = eqb d.year 0

-- Every year: weekday 0 to 6, and day 1 to 5 as the occurrence in the month. Once: a valid day of 1601 to 30827, whatever its weekday.
abbrev pub valid_day : SystemTime → Bool
valid_day d =
    cond (is_yearly d)
    (within 0 6 d.weekday && within 1 5 d.day)
    (within 1601 30827 d.year && within 1 (days_in_month d.year d.month) d.day)

-- A date has no second 60, not even at 23:59 on the last day of a month: that is the rule of TIME alone.
abbrev pub valid_seconds : ℕ → ℕ → Bool
valid_seconds s ms = within 0 59 s && within 0 999 ms

-- the time of day, to the millisecond
abbrev pub valid_time : SystemTime → Bool
valid_time d = within 0 23 d.hour && within 0 59 d.minute && valid_seconds d.second d.millisecond

-- the rule of a set date
unfoldable pub valid_date : SystemTime → Bool
valid_date d = within 1 12 d.month && valid_day d && valid_time d

-- the rule of a set date of every year
abbrev pub yearly_date : SystemTime → Bool
yearly_date d =
    is_yearly d
    && (within 1 12 d.month && (within 0 6 d.weekday && within 1 5 d.day) && valid_time d)

-- not a set date that breaks its rule (10)
abbrev pub date_ok : SystemTime → Bool
date_ok d = not (is_set d) || valid_date d

abbrev pub unset : SystemTime
unset = record { year = 0; month = 0; weekday = 0; day = 0; hour = 0; minute = 0; second = 0; millisecond = 0 }

-- A normal date, by document 01's sentence: one that is not set is all zero, and one with a year has weekday 0.
pub record NormalDate (d : SystemTime) : Type 0 where
  pub not_set : is_set d ≡ false → d ≡ unset
  pub with_year : is_set d ≡ true → is_yearly d ≡ false → d.weekday ≡ 0

-- a date made normal
abbrev pub with_weekday : SystemTime → ℕ → SystemTime
with_weekday d w =
    record {
      year = d.year;
      month = d.month;
      weekday = w;
      day = d.day;
      hour = d.hour;
      minute = d.minute;
      second = d.second;
      millisecond = d.millisecond;
    }

unfoldable pub normal_date : SystemTime → SystemTime
normal_date d = cond (is_set d) (cond (is_yearly d) d (with_weekday d 0)) unset
