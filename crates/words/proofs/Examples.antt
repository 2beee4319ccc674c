-- Times of day of switches, as the definitions show them.
use Prim.Native.Nat.{ℕ}
use mathlib.Core.Path.{◌≡◌, refl}
use Rattle.ascii.specs.Text.{ascii}
use Rattle.page.specs.Numbers.{digits_of}
use Rattle.zone.specs.declared.dates.SystemTime.{SystemTime}
use Rattle.words.specs.Names.{weekday_name, month_name, occurrence_name}
use Rattle.words.specs.Rules.{yearly_text, day_text, when_text, seconds_text, switch_text}

-- the last Sunday of October, and 2024-10-31
abbrev last_sunday : ℕ → ℕ → ℕ → ℕ → SystemTime
last_sunday h mi s ms = record { year = 0; month = 10; weekday = 0; day = 5; hour = h; minute = mi; second = s; millisecond = ms }

abbrev last_day : ℕ → ℕ → ℕ → ℕ → SystemTime
last_day h mi s ms = record { year = 2024; month = 10; weekday = 0; day = 31; hour = h; minute = mi; second = s; millisecond = ms }

whole-minute : switch_text (last_sunday 3 0 0 0) ≡ ascii ", from the last Sunday of October 03:00"
unfolding switch_text when_text yearly_text occurrence_name weekday_name month_name seconds_text digits_of
whole-minute = refl

last-millisecond : switch_text (last_sunday 23 59 59 999) ≡ ascii ", from the last Sunday of October 23:59:59.999"
unfolding switch_text when_text yearly_text occurrence_name weekday_name month_name seconds_text digits_of
last-millisecond = refl

-- one of the two is zero
whole-second : switch_text (last_day 2 0 30 0) ≡ ascii ", from 2024-10-31 02:00:30.000"
unfolding switch_text when_text day_text seconds_text digits_of
whole-second = refl

first-millisecond : switch_text (last_day 0 0 0 1) ≡ ascii ", from 2024-10-31 00:00:00.001"
unfolding switch_text when_text day_text seconds_text digits_of
first-millisecond = refl
