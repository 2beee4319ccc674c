-- Document 01's pencil account: an end and the noted runs, and nothing else. It is fed the calls' arguments except the tally.
use Rattle.std.specs.Prelude.{ℕ, ◌+◌, ◌-◌, Bool, false, ◌&&◌, ◌||◌, List, [], ◌∷◌, length, leb, ltb, eqb}
use Rattle.refusal.specs.Outcome.{Outcome, refused, answered, require, ◌>>=◌, ◌>>◌}
use Rattle.refusal.specs.Lent.{fitting, written, lent_after}
use Rattle.days.specs.Counting.{count_among}
use Rattle.zone.specs.declared.rules.Rule.{Rule}
use Rattle.zone.specs.declared.ticks.UtcTick.{UtcTick}
use Rattle.zone.specs.Ticks.{window_start, window_end, utc_tick}
use Rattle.rows.specs.Row.{check_row}
use Rattle.tally.specs.declared.tallies.Tally.{Tally}
use Rattle.tally.specs.Tallies.{at, seven}
use Rattle.tally.specs.Booking.{local_weekday, check_run}
use Rattle.tally.specs.Saved.{record_of, readable}
use Rattle.account.specs.Calls.{Call, book, save, read, Told, booked, saved, got, Outcomes}

-- from a to before b
pub record Run : Type 0 where
  pub from : UtcTick
  pub to : UtcTick

pub record Pencil : Type 0 where
  pub end : UtcTick
  pub noted : List Run

-- the tick u lies in one of the runs
unfoldable pub covered : List Run → ℕ → Bool
covered [] u = false
covered (r ∷ rs) u = (leb (at r.from) u && ltb u (at r.to)) || covered rs u

-- the number of ticks of the window that lie in the runs and whose local weekday is w
unfoldable pub ticks_on : List Rule → List Run → ℕ → ℕ
ticks_on row rs w = count_among (λ u. covered rs u && eqb (local_weekday row u) w) window_start window_end

-- the lengths of the runs together
unfoldable pub time_run : List Run → ℕ
time_run [] = 0
time_run (r ∷ rs) = (at r.to - at r.from) + time_run rs

-- first the window's start, and no run
unfoldable pub opened : Pencil
opened = record { end = utc_tick window_start; noted = [] }

-- the account's tally: its end, and by weekday the ticks in noted runs
unfoldable pub tally_of : List Rule → Pencil → Tally
tally_of row p = record { end = p.end; totals = seven (ticks_on row p.noted) }

-- a run that the rules refuse gets the number; else it is noted, and b becomes the end
unfoldable pub noting : List Rule → Pencil → UtcTick → UtcTick → Outcome Pencil
noting row p a b = do
  check_row row
  check_run row p.end a b
  answered (record { end = b; noted = record { from = a; to = b } ∷ p.noted })

-- a refused run changes nothing
abbrev pub or_kept : Outcome Pencil → Pencil → Pencil
or_kept (answered new) p = new
or_kept (refused n) p = p

unfoldable pub pencil_after : List Rule → Pencil → Call → Pencil
pencil_after row p (book a b) = or_kept (noting row p a b) p
pencil_after row p (save out) = p
pencil_after row p (read s) = p

-- the account's answers: its own tally, and that tally's record
unfoldable pub pencil_told : List Rule → Pencil → Call → Told
pencil_told row p (book a b) = booked (noting row p a b >>= (λ q. answered (tally_of row q)))
pencil_told row p (save out) =
    let record' : Outcome (List ℕ) = fitting (record_of (tally_of row p)) (length out) in
    saved (written record') (lent_after record' out)
pencil_told row p (read s) = got (require (readable s) 18 >> answered (tally_of row p))

unfoldable pub pencil : List Rule → Pencil → List Call → Outcomes
pencil row p [] = record { told = []; tally = tally_of row p }
pencil row p (c ∷ cs) =
    let rest = pencil row (pencil_after row p c) cs in
    record { told = pencil_told row p c ∷ rest.told; tally = rest.tally }

-- from the first page
abbrev pub account : List Rule → List Call → Outcomes
account row cs = pencil row opened cs
