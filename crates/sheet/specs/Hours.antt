-- Ticks as hours and minutes, rounded down, and all the time of a tally.
use Rattle.std.specs.Prelude.{ℕ, ◌/◌, ◌%◌, cond}
use Rattle.days.specs.Ticks.{hour, minute}
use Rattle.totals.specs.Totals.{sum}
use Rattle.tally.specs.declared.tallies.Tally.{Tally}
use Rattle.tally.specs.Tallies.{holds}

abbrev pub hours_of : ℕ → ℕ
hours_of ticks = ticks / hour

-- the minutes after the last whole hour
abbrev pub minutes_of : ℕ → ℕ
minutes_of ticks = (ticks % hour) / minute

-- the totals of a tally that holds, summed; a tally that does not hold has run for no time
abbrev pub time_run : Tally → ℕ
time_run t = cond (holds t) (sum t.totals) 0
