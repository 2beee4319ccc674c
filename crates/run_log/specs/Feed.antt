-- A log that comes in pieces, and what the whole of it comes to.
use Rattle.std.specs.Prelude.{ℕ, ◌+◌, Bool, true, false, cond, length, take, ltb, eqb}
use mathlib.Core.List.{List, [], ◌∷◌, ◌++◌}
use Rattle.ascii.specs.Text.{byte}
use Rattle.zone.specs.declared.rules.Rule.{Rule}
use Rattle.run_log.specs.declared.Log.{Log}
use Rattle.log_lines.specs.declared.faults.Fault.{Fault}
use Rattle.run_log.specs.declared.Job.{Job}
use Rattle.run_log.specs.Log.{with_fault, next_line, line_taken, lines_of}

-- ---- the whole log
-- a line that is too long is a fault, and nothing behind it is looked at
abbrev pub too_long : Log → Log
too_long log = with_fault Fault.TooLong (next_line log)

-- a log after lines of which none may have more than `room` bytes
unfoldable pub lines_within : List Rule → ℕ → List (List ℕ) → Log → Log
lines_within row room [] log = log
lines_within row room (line ∷ lines) log = cond (ltb room (length line)) (too_long log) (lines_within row room lines (line_taken row line log))

-- a log after all of a text: no word of pieces
unfoldable pub log_taken : List Rule → ℕ → List ℕ → Log → Log
log_taken row room text log = lines_within row room (lines_of text) log

-- ---- in pieces
-- how far a log came: the whole lines that were taken, what stands behind the last line end, and whether a line was too long
pub record Fed : Type 0 where
  pub log : Log
  pub rest : List ℕ
  pub stopped : Bool

abbrev pub begun : Log → Fed
begun log = record { log = log; rest = []; stopped = false }

abbrev pub halted : Log → Fed
halted log = record { log = too_long log; rest = []; stopped = true }

abbrev pub carrying : Log → List ℕ → Fed
carrying log rest = record { log = log; rest = rest; stopped = false }

-- one byte more, with room for `room` bytes of a line
abbrev pub byte_fed : List Rule → ℕ → Fed → ℕ → Fed
byte_fed row room s b =
    cond s.stopped s (cond (eqb b (byte "\n")) (begun (line_taken row s.rest s.log)) (cond (ltb (length s.rest) room) (carrying s.log (s.rest ++ (b ∷ []))) (halted s.log)))

-- a piece more
unfoldable pub fed : List Rule → ℕ → Fed → List ℕ → Fed
fed row room s [] = s
fed row room s (b ∷ piece) = fed row room (byte_fed row room s b) piece

-- the end of the log: what stands behind the last line end is a line, if it is anything
unfoldable pub end_of : List Rule → Fed → Log
end_of row s = cond s.stopped s.log (cond (eqb (length s.rest) 0) s.log (line_taken row s.rest s.log))

-- ---- the code's steps
-- what a job and the bytes that it was lent stand for
abbrev pub state_of : Job → List ℕ → Fed
state_of job bytes = record { log = job.log; rest = take job.len bytes; stopped = job.stopped }

-- a part of a line behind what is carried; where the line's end follows, the line is taken
abbrev pub part_fed : List Rule → ℕ → Fed → List ℕ → Bool → Fed
part_fed row room s part ended =
    cond (ltb room (length s.rest + length part)) (halted s.log) (cond ended (begun (line_taken row (s.rest ++ part) s.log)) (carrying s.log (s.rest ++ part)))

-- a length above that of the lent bytes stands for all of them
abbrev pub job_within : Job → ℕ → Job
job_within job most = record { log = job.log; len = cond (ltb job.len most) job.len most; stopped = job.stopped }
