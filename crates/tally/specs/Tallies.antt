-- A tally, document 01's word for seven totals in ticks, one for each weekday from Sunday, and the end of the last run.
use Rattle.std.specs.Prelude.{ℕ, ◌-◌, Bool, ◌&&◌, List, ℤ, pos, negsuc, leb}
use Rattle.totals.specs.Totals.{table, sum}
use Rattle.zone.specs.declared.ticks.UtcTick.{UtcTick}
use Rattle.zone.specs.Ticks.{window_start, window_end, utc_tick}
use Rattle.tally.specs.declared.tallies.Tally.{Tally}

-- a number for each weekday, Sunday first
abbrev pub seven : (ℕ → ℕ) → List ℕ
seven f = table 7 f

-- zeros, and the window's start
unfoldable pub fresh : Tally
fresh = record { end = utc_tick window_start; totals = seven (λ w. 0) }

-- a signed tick as a number: a negative one counts as 0, which lies before the window too
abbrev pub natural : ℤ → ℕ
natural (pos n) = n
natural (negsuc n) = 0

abbrev pub at : UtcTick → ℕ
at t = natural t.0

-- from the window's start to its end, both included: the ends of a run, and of a tally, may lie there
unfoldable pub in_span : UtcTick → Bool
in_span t = leb window_start (at t) && leb (at t) window_end

-- a tally holds if its end lies there, and its totals add up to no more than the time from the window's start to its end
unfoldable pub holds : Tally → Bool
holds t = in_span t.end && leb (sum t.totals) (at t.end - window_start)
