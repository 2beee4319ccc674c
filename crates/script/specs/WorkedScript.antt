-- A script worked out by hand, with a record that is read back from a buffer longer than it, and one that is not read because a run was booked since.
use Rattle.std.specs.Prelude.{ℕ, ◌+◌, ◌-◌, ◌≡◌, List, [], ◌∷◌, ◌++◌, replicate}
use Rattle.refusal.specs.Outcome.{Outcome, refused, answered}
use Rattle.zone.specs.Ticks.{utc_tick}
use Rattle.account.specs.Calls.{Call, save, read, booked, saved, got, Outcomes}
use Rattle.account.specs.WorkedList.{zone, sunday, run, first, second, bytes_of_kind}
use Rattle.script.specs.declared.ScriptCall.{ScriptCall}
use Rattle.script.specs.Scripts.{scripted, script_outcome, buffer_left, log_left}

abbrev pub called : ℕ → ℕ → ℕ → ScriptCall
called kind a b = record { kind = kind; from = utc_tick a; to = utc_tick b }

-- the buffer has 70 bytes, and the log 8
unfoldable pub script : List ScriptCall
script =
    called 0 (sunday - 3) (sunday + 2)
    -- nothing is saved yet
    ∷ called 2 0 0
    -- before the end of the last run
    ∷ called 0 sunday (sunday + 9)
    ∷ called 1 0 0
    -- the record of 68 bytes
    ∷ called 7 0 0
    ∷ called 0 (sunday + 8) (sunday + 12)
    -- it is another tally's now
    ∷ called 2 0 0
    ∷ []

abbrev pub buffer : List ℕ
buffer = replicate 70 7

-- the first tally's record, and the two bytes behind it as they were
abbrev pub buffer_afterwards : List ℕ
buffer_afterwards = bytes_of_kind 1 ++ (7 ∷ 7 ∷ [])

-- the calls that it stands for
unfoldable pub list : List Call
list =
    run (sunday - 3) (sunday + 2)
    ∷ read []
    ∷ run sunday (sunday + 9)
    ∷ save buffer
    ∷ read (bytes_of_kind 1)
    ∷ run (sunday + 8) (sunday + 12)
    ∷ read []
    ∷ []

unfoldable pub worked : Outcomes
worked =
    record {
      told =
          booked (answered first)
          ∷ got (refused 18)
          ∷ booked (refused 17)
          ∷ saved (answered 68) buffer_afterwards
          ∷ got (answered first)
          ∷ booked (answered second)
          ∷ got (refused 18)
          ∷ [];
      tally = second;
    }

abbrev pub outcome_for : ℕ → Outcome Outcomes
outcome_for room = script_outcome zone script buffer room

pub record Worked : Type 0 where
  pub calls : scripted zone script buffer ≡ list
  -- what the pencil account says, and what stands in the buffer and the log after it
  pub outcome : outcome_for 8 ≡ answered worked
  pub buffer : buffer_left (outcome_for 8) buffer ≡ buffer_afterwards
  pub log : log_left (outcome_for 8) (replicate 8 9) ≡ 0 ∷ 18 ∷ 17 ∷ 0 ∷ 0 ∷ 0 ∷ 18 ∷ 9 ∷ []
  -- a log of six bytes
  pub short : outcome_for 6 ≡ refused 13
