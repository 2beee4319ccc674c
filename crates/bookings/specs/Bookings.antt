-- The calls that a log's lines ask for.
use Rattle.std.specs.Prelude.{ℕ, cond, List, [], ◌∷◌, length, drop, ltb, Option, Some, None, Result, Ok, Err}
use Rattle.zone.specs.declared.rules.Rule.{Rule}
use Rattle.tally.specs.declared.tallies.Tally.{Tally}
use Rattle.account.specs.Calls.{Call, book, save, read, told_of, tally_after, record_after}
use Rattle.account.specs.Pencil.{Run}
use Rattle.zone.specs.declared.ticks.UtcTick.{UtcTick}
use Rattle.log_lines.specs.declared.faults.Fault.{Fault}
use Rattle.log_lines.specs.Lines.{log_line}
use Rattle.run_log.specs.Log.{one_more, mark_length}

-- a run is a booking, and no other line is a call
abbrev pub with_call : Result (Option (UtcTick × UtcTick)) Fault → List Call → List Call
with_call (Ok None) cs = cs
with_call (Ok (Some (from, to))) cs = book from to ∷ cs
with_call (Err fault) cs = cs

-- the bookings of lines, after some others: none from a line on that is too long
unfoldable pub bookings : ℕ → ℕ → List (List ℕ) → List Call
bookings room before [] = []
bookings room before (line ∷ lines) = cond (ltb room (length line)) [] (with_call (log_line (drop (mark_length before line) line)) (bookings room (one_more before) lines))

-- the runs that calls ask for, after some others, the last one first
abbrev pub runs_after : List Run → List Call → List Run
runs_after rs [] = rs
runs_after rs (book a b ∷ cs) = runs_after (record { from = a; to = b } ∷ rs) cs
runs_after rs (save out ∷ cs) = runs_after rs cs
runs_after rs (read s ∷ cs) = runs_after rs cs

-- the record that a reading may be given after a list of calls
unfoldable pub last_after : List Rule → Tally → Option (List ℕ) → List Call → Option (List ℕ)
last_after row t last [] = last
last_after row t last (c ∷ cs) = last_after row (tally_after row t c) (record_after (told_of row t c) last) cs
