-- Booking a run, from a to before b, in the zone of a row of rules.
use Rattle.std.specs.Prelude.{ℕ, ◌&&◌, List, leb}
use Rattle.refusal.specs.Outcome.{Outcome, answered, require, ◌>>◌}
use Rattle.days.specs.Ticks.{weekday_of}
use Rattle.totals.specs.Totals.{grown}
use Rattle.zone.specs.declared.rules.Rule.{Rule}
use Rattle.zone.specs.declared.ticks.UtcTick.{UtcTick}
use Rattle.rows.specs.Row.{check_row}
use Rattle.rows.specs.Search.{has_rule, local_of}
use Rattle.tally.specs.declared.tallies.Tally.{Tally}
use Rattle.tally.specs.Tallies.{at, in_span, holds}

-- the weekday of the local tick that a UTC tick shows
unfoldable pub local_weekday : List Rule → ℕ → ℕ
local_weekday row u = weekday_of (local_of row u)

-- What a run is refused with after a run that ended at `end`: 15, 17, 16.
unfoldable pub check_run : List Rule → UtcTick → UtcTick → UtcTick → Outcome (Unit {0})
check_run row end a b = do
  require (in_span a && in_span b) 15
  require (leb (at a) (at b) && leb (at end) (at a)) 17
  require (has_rule row (at a)) 16

-- b is the end, and each total has grown by the run's ticks of that local weekday
unfoldable pub with_run : List Rule → Tally → UtcTick → UtcTick → Tally
with_run row t a b = record { end = b; totals = grown 7 (local_weekday row) t.totals (at a) (at b) }

-- the row's checks, 18, then the run's
unfoldable pub book : List Rule → Tally → UtcTick → UtcTick → Outcome Tally
book row t a b = do
  check_row row
  require (holds t) 18
  check_run row t.end a b
  answered (with_run row t a b)
