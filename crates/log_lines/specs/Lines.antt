-- Lines of a log of runs. A line is a comment from its first `#` on; before it stand words with blanks between them.
use Rattle.std.specs.Prelude.{ℕ, Bool, true, false, cond, not, ◌||◌, List, [], ◌∷◌, eqb, ℤ, Option, Some, None, Result, Ok, Err}
use Rattle.time_text.specs.declared.faults.TextFault.{TextFault}
use Rattle.zone.specs.declared.ticks.UtcTick.{UtcTick}
use Rattle.log_lines.specs.declared.faults.Fault.{Fault}
use Rattle.log_lines.specs.declared.faults.Fault.TheVariants.{NotTwoTimes}
use Rattle.log_lines.specs.Faults.{fault_of}
use Rattle.ascii.specs.Text.{byte}
use Rattle.calendar.specs.Revisions.{revision12}
use Rattle.time_text.specs.Times.{utc_time}

-- space, tab and carriage return
abbrev pub is_blank : ℕ → Bool
is_blank b = eqb b (byte " ") || eqb b (byte "\t") || eqb b (byte "\r")

abbrev pub is_word : ℕ → Bool
is_word b = not (is_blank b)

abbrev pub is_text : ℕ → Bool
is_text b = not (eqb b (byte "#"))

-- the bytes in front that pass a test, and the rest behind them
unfoldable pub take_while : (ℕ → Bool) → List ℕ → List ℕ
take_while p [] = []
take_while p (b ∷ s) = cond (p b) (b ∷ take_while p s) []

unfoldable pub drop_while : (ℕ → Bool) → List ℕ → List ℕ
drop_while p [] = []
drop_while p (b ∷ s) = cond (p b) (drop_while p s) (b ∷ s)

-- from the first word on, and from the word behind it on
abbrev pub first_word : List ℕ → List ℕ
first_word s = drop_while is_blank s

abbrev pub next_word : List ℕ → List ℕ
next_word s = first_word (drop_while is_word s)

abbrev pub is_empty : List ℕ → Bool
is_empty [] = true
is_empty (b ∷ s) = false

-- two times are a run; the first word's fault goes before the second's
abbrev pub run_of : Result ℤ TextFault → Result ℤ TextFault → Result (UtcTick × UtcTick) Fault
run_of (Ok from) (Ok to) = Ok (record { 0 = from }, record { 0 = to })
run_of (Ok from) (Err of) = Err (fault_of of)
run_of (Err of) to = Err (fault_of of)

-- a line that is a run, or a wrong one
abbrev pub as_line : Result (UtcTick × UtcTick) Fault → Result (Option (UtcTick × UtcTick)) Fault
as_line (Ok run) = Ok (Some run)
as_line (Err fault) = Err fault

-- No word: nothing to do. Two words: a run of two times of UTC. Any other number of words is wrong.
unfoldable pub log_line : List ℕ → Result (Option (UtcTick × UtcTick)) Fault
log_line s =
    let first : List ℕ = first_word (take_while is_text s) in
    let second : List ℕ = next_word first in
    let third : List ℕ = next_word second in
    cond (is_empty first) (Ok None)
    (cond (is_empty second) (Err NotTwoTimes)
    (cond (is_empty third) (as_line (run_of (utc_time revision12 (take_while is_word first)) (utc_time revision12 (take_while is_word second))))
    (Err NotTwoTimes)))
