-- Ticks of UTC and of local time, and document 01's window.
use Rattle.std.specs.Prelude.{ℕ, pos}
use Rattle.zone.specs.declared.ticks.UtcTick.{UtcTick}
use Rattle.zone.specs.declared.ticks.LocalTick.{LocalTick}

-- The window: UTC ticks from 1602-01-01, included, to 30828-01-01, excluded.
abbrev pub window_start : ℕ
window_start = 315360000000000

abbrev pub window_end : ℕ
window_end = 9223149888000000000

abbrev pub utc_tick : ℕ → UtcTick
utc_tick n = record { 0 = pos n }

abbrev pub local_tick : ℕ → LocalTick
local_tick n = record { 0 = pos n }
