-- What a line of a log comes to.
use Rattle.std.specs.Prelude.{ℕ, ◌+◌, Bool, false, cond, List, [], ◌∷◌, length, get_or, drop, set, ltb, eqb, Option, Some, None, Result, Ok, Err}
use Rattle.ascii.specs.Text.{byte}
use Rattle.refusal.specs.Number.{refusal_of}
use Rattle.refusal.specs.Outcome.{Outcome, refused, answered}
use Rattle.zone.specs.declared.rules.Rule.{Rule}
use Rattle.tally.specs.declared.tallies.Tally.{Tally}
use Rattle.tally.specs.Booking.{book}
use Rattle.zone.specs.declared.ticks.UtcTick.{UtcTick}
use Rattle.log_lines.specs.declared.faults.Fault.{Fault}
use Rattle.log_lines.specs.Lines.{log_line}
use Rattle.run_log.specs.declared.Log.{Log}

-- a count that stays where it is rather than wrap
abbrev pub one_more : ℕ → ℕ
one_more n = cond (ltb n 9223372036854775807) (n + 1) n

-- one wrong line more; only as many are noted as there is room for
abbrev pub with_fault : Fault → Log → Log
with_fault fault log =
    record {
      tally = log.tally;
      lines = log.lines;
      faults = one_more log.faults;
      noted = set log.noted log.faults (record { line = log.lines; fault = fault });
    }

abbrev pub with_tally : Tally → Log → Log
with_tally t log = record { tally = t; lines = log.lines; faults = log.faults; noted = log.noted }

-- a log after what came of a run
abbrev pub ran : Outcome Tally → Log → Log
ran (answered t) log = with_tally t log
ran (refused n) log = with_fault (Fault.Refused (refusal_of n)) log

-- a log with a line that says this: grown by a run that is accepted; a line that is no run, or one that is refused, is wrong
abbrev pub said : List Rule → Result (Option (UtcTick × UtcTick)) Fault → Log → Log
said row (Ok None) log = log
said row (Ok (Some (from, to))) log = ran (book row log.tally from to) log
said row (Err fault) log = with_fault fault log

-- one line more
abbrev pub next_line : Log → Log
next_line log = record { tally = log.tally; lines = one_more log.lines; faults = log.faults; noted = log.noted }

-- a log after the text of one line more
unfoldable pub text_taken : List Rule → List ℕ → Log → Log
text_taken row text log = said row (log_line text) (next_line log)

-- the byte order mark of UTF-8
abbrev pub is_mark : ℕ → ℕ → ℕ → Bool
is_mark a b c = cond (eqb a 239) (cond (eqb b 187) (eqb c 191) false) false

-- how many bytes of a line are no text, by how many lines came before it: the mark at the very start of a log
abbrev pub mark_length : ℕ → List ℕ → ℕ
mark_length before line = cond (eqb before 0) (cond (ltb (length line) 3) 0 (cond (is_mark (get_or line 0 0) (get_or line 1 0) (get_or line 2 0)) 3 0)) 0

-- a log after one line more
unfoldable pub line_taken : List Rule → List ℕ → Log → Log
line_taken row line log = text_taken row (drop (mark_length log.lines line) line) log

-- ---- lines of a text
-- up to the first line end
unfoldable pub first_line : List ℕ → List ℕ
first_line [] = []
first_line (b ∷ text) = cond (eqb b (byte "\n")) [] (b ∷ first_line text)

abbrev pub with_byte : ℕ → List (List ℕ) → List (List ℕ)
with_byte b [] = (b ∷ []) ∷ []
with_byte b (line ∷ lines) = (b ∷ line) ∷ lines

-- the lines, without their ends; what follows the last end is a line if it is anything
unfoldable pub lines_of : List ℕ → List (List ℕ)
lines_of [] = []
lines_of (b ∷ text) = cond (eqb b (byte "\n")) ([] ∷ lines_of text) (with_byte b (lines_of text))
