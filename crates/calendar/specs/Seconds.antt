-- Seconds since the start of 1970 and of 1980.
use Rattle.std.specs.Prelude.{ℕ, ◌+◌, ◌-◌, ◌*◌, ◌/◌, ℤ, pos, leb}
use Rattle.refusal.specs.Outcome.{Outcome, answered, require, ◌>>=◌, ◌>>◌}
use Rattle.days.specs.Ticks.{second}
use Rattle.calendar.specs.Fields.{not_negative}

abbrev pub start1970 : ℕ
start1970 = 116444736000000000

abbrev pub start1980 : ℕ
start1980 = 119600064000000000

-- whole seconds from a start to a tick, rounded down: accepted exactly when they are 0 to 4294967295
unfoldable pub whole_seconds : ℕ → ℕ → Outcome ℕ
whole_seconds start n = do
  require (leb start n) 15
  require (leb ((n - start) / second) 4294967295) 15
  answered ((n - start) / second)

abbrev pub seconds_since : ℕ → ℤ → Outcome ℕ
seconds_since start t = do
  n ← not_negative t
  whole_seconds start n

abbrev pub seconds_to_time : ℕ → ℕ → ℤ
seconds_to_time start s = pos (start + s * second)
