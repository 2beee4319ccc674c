-- Where no line of a log was wrong, every run of its lines is accepted.
use Prim.Native.Nat.{ℕ, ◌≤◌, ◌<◌}
use native.Mathlib.Omega.{arith}
use mathlib.Core.Path.{◌≡◌, refl, ap, ◌∙◌}
use mathlib.Core.Bool.{Bool, true, false}
use mathlib.Core.List.{List, [], ◌∷◌, ◌++◌}
use lib.ListN.{length, drop}
use lib.Dec.{ltb}
use borrow.Author.Tests.{ltb-false}
use Rattle.std.specs.Prelude.{Option, Some, None, Result, Ok, Err}
use Rattle.refusal.specs.Outcome.{Outcome, refused, answered}
use Rattle.zone.specs.declared.rules.Rule.{Rule}
use Rattle.tally.specs.declared.tallies.Tally.{Tally}
use Rattle.tally.specs.Tallies.{fresh}
use Rattle.tally.specs.Booking as booking
use Rattle.tally.specs.Saved.{read_tally}
use Rattle.tally.specs.Answers.{or_else}
use Rattle.account.specs.Calls.{Call, book, read, told_of, tally_after, calls}
use Rattle.account.specs.Pencil.{Run}
use Rattle.account.specs.Demand3.{run_of, accepted_after, accepted}
use Rattle.zone.specs.declared.ticks.UtcTick.{UtcTick}
use Rattle.log_lines.specs.declared.faults.Fault.{Fault}
use Rattle.log_lines.specs.Lines.{log_line}
use Rattle.run_log.specs.declared.Log.{Log}
use Rattle.run_log.specs.Log.{one_more, mark_length, ran, said, next_line, text_taken, line_taken, lines_of}
use Rattle.run_log.specs.Feed.{lines_within, log_taken}
use Rattle.booking_job.specs.Booked.{open_log, booked}
use Rattle.bookings.specs.Bookings.{with_call, bookings, runs_after}
use Rattle.bookings.proofs.LogAccount.{said-lines}

-- ---- wrong lines are never fewer
grows : (n : ℕ) → n ≤ one_more n
grows n = go (ltb n 9223372036854775807) refl
  where
    go : (t : Bool) → ltb n 9223372036854775807 ≡ t → n ≤ one_more n
    go true e = rw e (omega arith)
    go false e = rw e (omega arith)

some_more : (n : ℕ) → 0 < one_more n
some_more n = go (ltb n 9223372036854775807) refl
  where
    go : (t : Bool) → ltb n 9223372036854775807 ≡ t → 0 < one_more n
    go true e = rw e (omega arith)
    go false e = rw e (omega (arith, ltb-false n 9223372036854775807 e))

ran-grows : (o : Outcome Tally) (log : Log) → log.faults ≤ (ran o log).faults
ran-grows (answered t) log = omega arith
ran-grows (refused n) log = grows log.faults

module _ (row : List Rule) where
  said-grows : (l : Result (Option (UtcTick × UtcTick)) Fault) (log : Log) → log.faults ≤ (said row l log).faults
  said-grows (Ok None) log = omega arith
  said-grows (Ok (Some (from, to))) log = ran-grows (booking.book row log.tally from to) log
  said-grows (Err fault) log = grows log.faults

  line-grows : (line : List ℕ) (log : Log) → log.faults ≤ (line_taken row line log).faults
  unfolding line_taken text_taken
  line-grows line log = said-grows (log_line (drop (mark_length log.lines line) line)) (next_line log)

  lines-grow : (room : ℕ) (lines : List (List ℕ)) (log : Log) → log.faults ≤ (lines_within row room lines log).faults
  unfolding lines_within
  lines-grow room [] log = omega arith
  lines-grow room (line ∷ lines) log = go (ltb room (length line)) refl (lines-grow room lines (line_taken row line log))
    where
      go : (t : Bool) → ltb room (length line) ≡ t → (line_taken row line log).faults ≤ (lines_within row room lines (line_taken row line log)).faults → log.faults ≤ (lines_within row room (line ∷ lines) log).faults
      go true e h = rw e (grows log.faults)
      go false e h = rw e (omega (arith, h, line-grows line log))

  -- ---- a line
  run-accepted : (log : Log) (cs : List Call) (rs : List Run) (l : Result (Option (UtcTick × UtcTick)) Fault) → (said row l log).faults ≡ 0
      → ((rs : List Run) → accepted_after rs cs (calls row (said row l log).tally cs).told ≡ runs_after rs cs)
      → accepted_after rs (with_call l cs) (calls row log.tally (with_call l cs)).told ≡ runs_after rs (with_call l cs)
  unfolding calls told_of tally_after
  run-accepted log cs rs (Ok None) z h = h rs
  run-accepted log cs rs (Ok (Some (from, to))) z h = go (booking.book row log.tally from to) refl z h
    where
      go : (o : Outcome Tally) → booking.book row log.tally from to ≡ o → (ran o log).faults ≡ 0
          → ((rs : List Run) → accepted_after rs cs (calls row (ran o log).tally cs).told ≡ runs_after rs cs)
          → accepted_after rs (book from to ∷ cs) (calls row log.tally (book from to ∷ cs)).told ≡ runs_after rs (book from to ∷ cs)
      go (answered t) e z h = rw e (h (record { from = from; to = to } ∷ rs))
      go (refused n) e z h = absurd (omega (arith, some_more log.faults, z))
  run-accepted log cs rs (Err fault) z h = absurd (omega (arith, some_more log.faults, z))

  -- ---- lines
  pub lines_runs : (room : ℕ) (lines : List (List ℕ)) (log : Log) → (lines_within row room lines log).faults ≡ 0
      → (rs : List Run) → accepted_after rs (bookings room log.lines lines) (calls row log.tally (bookings room log.lines lines)).told ≡ runs_after rs (bookings room log.lines lines)
  unfolding lines_within bookings calls line_taken text_taken
  lines_runs room [] log z rs = refl
  lines_runs room (line ∷ lines) log z rs = go (ltb room (length line)) refl (lines_runs room lines (line_taken row line log))
    where
      go : (t : Bool) → ltb room (length line) ≡ t
          → ((lines_within row room lines (line_taken row line log)).faults ≡ 0 → (rs : List Run)
          → accepted_after rs (bookings room (line_taken row line log).lines lines) (calls row (line_taken row line log).tally (bookings room (line_taken row line log).lines lines)).told ≡ runs_after rs (bookings room (line_taken row line log).lines lines))
          → accepted_after rs (bookings room log.lines (line ∷ lines)) (calls row log.tally (bookings room log.lines (line ∷ lines))).told ≡ runs_after rs (bookings room log.lines (line ∷ lines))
      go true e h = absurd (omega (arith, some_more log.faults, rw e at z))
      go false e h =
          let l : Result (Option (UtcTick × UtcTick)) Fault = log_line (drop (mark_length log.lines line) line) in
          let none : (lines_within row room lines (line_taken row line log)).faults ≡ 0 = rw e at z in
          let said-none : (said row l (next_line log)).faults ≡ 0 = omega (arith, lines-grow room lines (line_taken row line log), none) in
          let n : (said row l (next_line log)).lines ≡ one_more log.lines = said-lines row l (next_line log) in
          rw e (run-accepted (next_line log) (bookings room (one_more log.lines) lines) rs l said-none (rw n at h none))

  -- ---- lists of calls
  accepted-both : (t : Tally) (cs ds : List Call) (rs : List Run)
      → accepted_after rs (cs ++ ds) (calls row t (cs ++ ds)).told ≡ accepted_after (accepted_after rs cs (calls row t cs).told) ds (calls row (calls row t cs).tally ds).told
  unfolding calls
  accepted-both t [] ds rs = refl
  accepted-both t (c ∷ cs) ds rs = accepted-both (tally_after row t c) cs ds (run_of c (told_of row t c) ++ rs)

  -- after a list of calls and the reading of a record, a log without a wrong line adds its runs to those accepted before
  pub log-runs : (cs : List Call) (s : List ℕ) (t : Tally) → read_tally s ≡ answered t → (room : ℕ) (text : List ℕ) → (booked row room t text).faults ≡ 0
      → accepted row (cs ++ read s ∷ bookings room 0 (lines_of text)) ≡ runs_after (accepted row cs) (bookings room 0 (lines_of text))
  unfolding booked log_taken accepted calls told_of tally_after
  log-runs cs s t e room text z =
      let bs : List Call = bookings room 0 (lines_of text) in
      let rs : List Run = accepted_after [] cs (calls row fresh cs).told in
      let begins : or_else (read_tally s) (calls row fresh cs).tally ≡ t = ap (λ (o : Outcome Tally). or_else o (calls row fresh cs).tally) e in
      accepted-both fresh cs (read s ∷ bs) []
      ∙ ap (λ (u : Tally). accepted_after rs bs (calls row u bs).told) begins
      ∙ lines_runs room (lines_of text) (open_log t) z rs
