-- A list of calls worked out by hand, with accepted and refused calls of all three kinds: demand 3 does not speak of nothing.
use Rattle.std.specs.Prelude.{ℕ, ◌+◌, ◌-◌, ◌≡◌, true, List, [], ◌∷◌, ◌++◌, pos, negsuc, replicate}
use Rattle.refusal.specs.Outcome.{refused, answered}
use Rattle.zone.specs.declared.rules.Rule.{Rule}
use Rattle.zone.specs.Dates.{unset}
use Rattle.zone.specs.Ticks.{window_end, utc_tick}
use Rattle.rows.specs.Row.{check_row}
use Rattle.tally.specs.declared.tallies.Tally.{Tally}
use Rattle.account.specs.Calls.{Call, book, save, read, Told, booked, saved, got, Outcomes, outcomes, Listed}
use Rattle.account.specs.Pencil.{Run, covered, account}
use Rattle.account.specs.Demand3.{accepted}

-- one hour before UTC, always
unfoldable pub zone : List Rule
zone =
    record {
      year = 0;
      active = true;
      bias = negsuc 59;
      standard_bias = pos 0;
      daylight_bias = pos 0;
      standard_date = unset;
      daylight_date = unset;
    }
    ∷ []

-- UTC 2023-03-25 23:00, where in that zone Sunday 2023-03-26 begins
abbrev pub sunday : ℕ
sunday = 133242588000000000

abbrev pub run : ℕ → ℕ → Call
run a b = book (utc_tick a) (utc_tick b)

abbrev pub tallied : ℕ → List ℕ → Tally
tallied n l = record { end = utc_tick n; totals = l }

-- three ticks of Saturday and two of Sunday; then four more of Sunday; then the end alone moves
abbrev pub first : Tally
first = tallied (sunday + 2) (2 ∷ 0 ∷ 0 ∷ 0 ∷ 0 ∷ 0 ∷ 3 ∷ [])

abbrev pub second : Tally
second = tallied (sunday + 12) (6 ∷ 0 ∷ 0 ∷ 0 ∷ 0 ∷ 0 ∷ 3 ∷ [])

abbrev pub third : Tally
third = tallied (sunday + 20) (6 ∷ 0 ∷ 0 ∷ 0 ∷ 0 ∷ 0 ∷ 3 ∷ [])

-- the first tally's record, of a kind
abbrev pub bytes_of_kind : ℕ → List ℕ
bytes_of_kind kind =
    (0x42 ∷ 0x00 ∷ kind ∷ 0x00 ∷ 0x02 ∷ 0x98 ∷ 0xB1 ∷ 0x86 ∷ 0x6D ∷ 0x5F ∷ 0xD9 ∷ 0x01 ∷ 2 ∷ [])
    ++ replicate 47 0 ++ (3 ∷ replicate 7 0)

-- each call, and what it is told
unfoldable pub list : List Call
list =
    run (sunday - 3) (sunday + 2)
    -- before the end of the last run; an end outside the window
    ∷ run sunday (sunday + 9)
    ∷ run (sunday + 9) (window_end + 1)
    ∷ book (record { 0 = negsuc 0 }) (utc_tick (sunday + 9))
    -- an output of 67 bytes, and one of 70
    ∷ save (replicate 67 7)
    ∷ save (replicate 70 7)
    -- another kind; cut short; the record itself
    ∷ read (bytes_of_kind 2)
    ∷ read (replicate 67 0)
    ∷ read (bytes_of_kind 1)
    -- after a gap; then an empty run
    ∷ run (sunday + 8) (sunday + 12)
    ∷ run (sunday + 20) (sunday + 20)
    -- the record that was saved is another tally's now, and a reading may not be given it
    ∷ read []
    ∷ []

unfoldable pub told : List Told
told =
    booked (answered first)
    ∷ booked (refused 17)
    ∷ booked (refused 15)
    ∷ booked (refused 15)
    ∷ saved (refused 13) (replicate 67 7)
    ∷ saved (answered 68) (bytes_of_kind 1 ++ (7 ∷ 7 ∷ []))
    ∷ got (refused 18)
    ∷ got (refused 18)
    ∷ got (answered first)
    ∷ booked (answered second)
    ∷ booked (answered third)
    ∷ got (refused 18)
    ∷ []

-- the runs that were accepted, the last one first
unfoldable pub runs : List Run
runs =
    record { from = utc_tick (sunday + 20); to = utc_tick (sunday + 20) }
    ∷ record { from = utc_tick (sunday + 8); to = utc_tick (sunday + 12) }
    ∷ record { from = utc_tick (sunday - 3); to = utc_tick (sunday + 2) }
    ∷ []

unfoldable pub worked : Outcomes
worked = record { told = told; tally = third }

-- another list: the same ticks, the first five of them in two runs, and no empty run
unfoldable pub in_parts : List Call
in_parts = run (sunday - 3) sunday ∷ run sunday (sunday + 2) ∷ run (sunday + 8) (sunday + 12) ∷ []

pub record Worked : Type 0 where
  -- the zone is accepted, and the list is one that demand 3 is about
  pub accepts : check_row zone ≡ answered tt
  pub listed : Listed zone list
  -- what the calls answer, which runs they accept, and what the pencil account says
  pub calls : outcomes zone list ≡ worked
  pub noted : accepted zone list ≡ runs
  pub pencil : account zone list ≡ worked
  -- two lists that differ in calls, runs and end, and are alike in the ticks that their accepted runs cover
  pub listed-too : Listed zone in_parts
  pub alike : (u : ℕ) → covered (accepted zone list) u ≡ covered (accepted zone in_parts) u
  pub same-totals : (outcomes zone list).tally.totals ≡ (outcomes zone in_parts).tally.totals
