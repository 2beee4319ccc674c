-- UTC to local time, and local time to UTC, in the paper's order of refusals.
use Rattle.std.specs.Prelude.{ℕ, Bool, ◌&&◌, List, map, leb, ltb, eqb}
use Rattle.refusal.specs.Outcome.{Outcome, answered, require, ◌>>=◌, ◌>>◌}
use Rattle.days.specs.Counting.{among}
use Rattle.calendar.specs.Fields.{not_negative}
use Rattle.zone.specs.declared.rules.Rule.{Rule}
use Rattle.zone.specs.declared.ticks.UtcTick.{UtcTick}
use Rattle.zone.specs.declared.ticks.LocalTick.{LocalTick}
use Rattle.zone.specs.Ticks.{window_start, window_end, utc_tick, local_tick}
use Rattle.rows.specs.Row.{check_row}
use Rattle.rows.specs.Search.{has_rule, local_of}

abbrev pub in_window : ℕ → Bool
in_window u = leb window_start u && ltb u window_end

-- the row, then 15, 16
unfoldable pub utc_to_local : List Rule → UtcTick → Outcome LocalTick
utc_to_local row t = do
  check_row row
  u ← not_negative t.0
  require (in_window u) 15
  require (has_rule row u) 16
  answered (local_tick (local_of row u))

-- u has a rule and shows the local tick n
abbrev pub shows : List Rule → ℕ → ℕ → Bool
shows row n u = has_rule row u && eqb (local_of row u) n

-- the row, then 15 for a negative tick; all ticks of the window that have a rule and show the local tick, earliest first
unfoldable pub local_to_utc : List Rule → LocalTick → Outcome (List UtcTick)
local_to_utc row l = do
  check_row row
  n ← not_negative l.0
  answered (map utc_tick (among (shows row n) window_start window_end))
