-- The tally after a log is the pencil account's, after the bookings of its lines.
use Prim.Native.Nat.{ℕ}
use mathlib.Core.Path.{◌≡◌, refl, sym, ap, ◌∙◌}
use mathlib.Core.Bool.{Bool, true, false}
use mathlib.Core.List.{List, [], ◌∷◌, ◌++◌}
use mathlib.Core.Logic.{inl}
use lib.ListN.{length, drop}
use lib.Dec.{ltb}
use Rattle.std.specs.Prelude.{Option, Some, None, Result, Ok, Err}
use Rattle.refusal.specs.Outcome.{Outcome, refused, answered}
use Rattle.zone.specs.declared.rules.Rule.{Rule}
use Rattle.tally.specs.declared.tallies.Tally.{Tally}
use Rattle.tally.specs.Tallies.{fresh}
use Rattle.tally.specs.Booking as booking
use Rattle.tally.specs.Saved.{read_tally}
use Rattle.tally.specs.Answers.{or_else}
use Rattle.account.specs.Calls.{Call, book, read, Outcomes, told_of, tally_after, calls, outcomes, record_after, AllowedFrom, Listed}
use Rattle.account.specs.Pencil.{account}
use Rattle.account.proofs.Demand3Holds.{demand3-in}
use Rattle.zone.specs.declared.ticks.UtcTick.{UtcTick}
use Rattle.log_lines.specs.declared.faults.Fault.{Fault}
use Rattle.log_lines.specs.Lines.{log_line}
use Rattle.run_log.specs.declared.Log.{Log}
use Rattle.run_log.specs.Log.{one_more, mark_length, ran, said, next_line, text_taken, line_taken, lines_of}
use Rattle.run_log.specs.Feed.{lines_within, log_taken}
use Rattle.booking_job.specs.Booked.{open_log, booked}
use Rattle.bookings.specs.Bookings.{with_call, bookings, last_after}

-- ---- a line
ran-tally : (o : Outcome Tally) (log : Log) → (ran o log).tally ≡ or_else o log.tally
ran-tally (answered t) log = refl
ran-tally (refused n) log = refl

ran-lines : (o : Outcome Tally) (log : Log) → (ran o log).lines ≡ log.lines
ran-lines (answered t) log = refl
ran-lines (refused n) log = refl

module _ (row : List Rule) where
  pub said-lines : (l : Result (Option (UtcTick × UtcTick)) Fault) (log : Log) → (said row l log).lines ≡ log.lines
  said-lines (Ok None) log = refl
  said-lines (Ok (Some (from, to))) log = ran-lines (booking.book row log.tally from to) log
  said-lines (Err fault) log = refl

  said-calls : (l : Result (Option (UtcTick × UtcTick)) Fault) (log : Log) (cs : List Call) → (calls row log.tally (with_call l cs)).tally ≡ (calls row (said row l log).tally cs).tally
  unfolding calls tally_after
  said-calls (Ok None) log cs = refl
  said-calls (Ok (Some (from, to))) log cs = ap (λ (t : Tally). (calls row t cs).tally) (sym (ran-tally (booking.book row log.tally from to) log))
  said-calls (Err fault) log cs = refl

  one_line : (room : ℕ) (line : List ℕ) (lines : List (List ℕ)) (log : Log)
      → (calls row (line_taken row line log).tally (bookings room (line_taken row line log).lines lines)).tally
      ≡ (calls row log.tally (with_call (log_line (drop (mark_length log.lines line) line)) (bookings room (one_more log.lines) lines))).tally
  unfolding line_taken text_taken
  one_line room line lines log =
      let l : Result (Option (UtcTick × UtcTick)) Fault = log_line (drop (mark_length log.lines line) line) in
      ap (λ (n : ℕ). (calls row (said row l (next_line log)).tally (bookings room n lines)).tally) (said-lines l (next_line log))
      ∙ sym (said-calls l (next_line log) (bookings room (one_more log.lines) lines))

  -- ---- lines
  pub lines-calls : (room : ℕ) (lines : List (List ℕ)) (log : Log) → (lines_within row room lines log).tally ≡ (calls row log.tally (bookings room log.lines lines)).tally
  unfolding lines_within bookings calls
  lines-calls room [] log = refl
  lines-calls room (line ∷ lines) log = go (ltb room (length line)) refl (lines-calls room lines (line_taken row line log))
    where
      go : (t : Bool) → ltb room (length line) ≡ t
          → (lines_within row room lines (line_taken row line log)).tally ≡ (calls row (line_taken row line log).tally (bookings room (line_taken row line log).lines lines)).tally
          → (lines_within row room (line ∷ lines) log).tally ≡ (calls row log.tally (bookings room log.lines (line ∷ lines))).tally
      go true e h = rw e
      go false e h = rw e (h ∙ one_line room line lines log)

  -- ---- lists of calls
  pub after_both : (t : Tally) (cs ds : List Call) → (calls row t (cs ++ ds)).tally ≡ (calls row (calls row t cs).tally ds).tally
  unfolding calls
  after_both t [] ds = refl
  after_both t (c ∷ cs) ds = after_both (tally_after row t c) cs ds

  pub allowed-both : (t : Tally) (last : Option (List ℕ)) (cs ds : List Call) → AllowedFrom row t last cs → AllowedFrom row (calls row t cs).tally (last_after row t last cs) ds → AllowedFrom row t last (cs ++ ds)
  unfolding calls last_after
  allowed-both t last [] ds a b = b
  allowed-both t last (c ∷ cs) ds a b = (a.0, allowed-both (tally_after row t c) (record_after (told_of row t c) last) cs ds a.1 b)

  -- bookings are always allowed
  calls-allowed : (l : Result (Option (UtcTick × UtcTick)) Fault) (cs : List Call) → ((t : Tally) (last : Option (List ℕ)) → AllowedFrom row t last cs) → (t : Tally) (last : Option (List ℕ)) → AllowedFrom row t last (with_call l cs)
  calls-allowed (Ok None) cs h t last = h t last
  calls-allowed (Ok (Some (from, to))) cs h t last = (tt, h (tally_after row t (book from to)) (record_after (told_of row t (book from to)) last))
  calls-allowed (Err fault) cs h t last = h t last

  bookings-allowed : (room before : ℕ) (lines : List (List ℕ)) (t : Tally) (last : Option (List ℕ)) → AllowedFrom row t last (bookings room before lines)
  unfolding bookings
  bookings-allowed room before [] t last = tt
  bookings-allowed room before (line ∷ lines) t last = go (ltb room (length line)) refl (bookings-allowed room (one_more before) lines)
    where
      go : (u : Bool) → ltb room (length line) ≡ u → ((t : Tally) (last : Option (List ℕ)) → AllowedFrom row t last (bookings room (one_more before) lines)) → AllowedFrom row t last (bookings room before (line ∷ lines))
      go true e h = rw e tt
      go false e h = rw e (calls-allowed (log_line (drop (mark_length before line) line)) (bookings room (one_more before) lines) h t last)

  -- ---- the account
  module _ (cs : List Call) (listed : Listed row cs) (s : List ℕ) (last : last_after row fresh None cs ≡ Some s) where
    -- a list, the reading of the record that its last accepted saving wrote, and the bookings of a log's lines
    pub log-listed : (room : ℕ) (text : List ℕ) → Listed row (cs ++ read s ∷ bookings room 0 (lines_of text))
    unfolding Listed
    log-listed room text = allowed-both fresh None cs (read s ∷ bookings room 0 (lines_of text)) listed (inl last, bookings-allowed room 0 (lines_of text) _ _)

    pub log-calls : (t : Tally) → read_tally s ≡ answered t → (room : ℕ) (text : List ℕ) → (booked row room t text).tally ≡ (outcomes row (cs ++ read s ∷ bookings room 0 (lines_of text))).tally
    unfolding booked log_taken calls tally_after
    log-calls t got' room text =
        let bs : List Call = bookings room 0 (lines_of text) in
        let u : Tally = (calls row fresh cs).tally in
        let begins : or_else (read_tally s) u ≡ t = ap (λ (o : Outcome Tally). or_else o u) got' in
        lines-calls room (lines_of text) (open_log t) ∙ ap (λ (x : Tally). (calls row x bs).tally) (sym begins) ∙ sym (after_both fresh cs (read s ∷ bs))

    -- the tally after the log is the account's
    pub log-account : (t : Tally) → read_tally s ≡ answered t → (room : ℕ) (text : List ℕ) → (booked row room t text).tally ≡ (account row (cs ++ read s ∷ bookings room 0 (lines_of text))).tally
    log-account t got' room text =
        log-calls t got' room text ∙ ap (λ (o : Outcomes). o.tally) ((demand3-in row).same (cs ++ read s ∷ bookings room 0 (lines_of text)) (log-listed room text))
