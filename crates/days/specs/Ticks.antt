-- Ticks of 100 ns, counted from 1601-01-01 00:00.
use Rattle.std.specs.Prelude.{ℕ, ◌*◌, ◌/◌}
use Rattle.days.specs.Years.{year_start, year_day}
use Rattle.days.specs.Dates.{weekday}

abbrev pub millisecond : ℕ
millisecond = 10_000

abbrev pub second : ℕ
second = 1000 * millisecond

abbrev pub minute : ℕ
minute = 60 * second

abbrev pub hour : ℕ
hour = 60 * minute

abbrev pub day : ℕ
day = 24 * hour

-- the year of a tick, and its weekday
abbrev pub year_of : ℕ → ℕ
year_of t = (year_day (t / day)).year

-- the day of its year on which a tick lies, from 0
abbrev pub day_in_year : ℕ → ℕ
day_in_year t = (year_day (t / day)).day

abbrev pub weekday_of : ℕ → ℕ
weekday_of t = weekday (t / day)

-- the first tick of a year
abbrev pub year_tick : ℕ → ℕ
year_tick y = year_start y * day
