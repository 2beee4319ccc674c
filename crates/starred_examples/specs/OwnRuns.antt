-- Runs booked in rows of our own choice, as one list; the claim is `AllHold own_run_claims`. The totals were worked out from document 01 by hand: an hour is 36000000000 ticks.
use Rattle.std.specs.Prelude.{ℕ, List, [], ◌∷◌}
use Rattle.zone.specs.Ticks.{utc_tick}
use Rattle.tally.specs.declared.tallies.Tally.{Tally}
use Rattle.tally.specs.Tallies.{fresh}
use Rattle.starred_examples.specs.Sheet.{at, zone_p, Example, adds}
use Rattle.starred_examples.specs.OwnExamples.{south, new_year, late}

-- a tally by its end and totals
abbrev pub tally : ℕ → List ℕ → Tally
tally end totals = record { end = utc_tick end; totals = totals }

unfoldable pub own_run_claims : List Example
own_run_claims =
    -- over a local midnight: an hour of Saturday and an hour and a half of Sunday
    adds zone_p fresh (at 2023 7 1 21 0) (at 2023 7 1 23 30) (54000000000 ∷ 0 ∷ 0 ∷ 0 ∷ 0 ∷ 0 ∷ 36000000000 ∷ [])
    -- the same in two runs
    ∷ adds zone_p fresh (at 2023 7 1 21 0) (at 2023 7 1 23 0) (36000000000 ∷ 0 ∷ 0 ∷ 0 ∷ 0 ∷ 0 ∷ 36000000000 ∷ [])
    ∷ adds zone_p (tally (at 2023 7 1 23 0) (36000000000 ∷ 0 ∷ 0 ∷ 0 ∷ 0 ∷ 0 ∷ 36000000000 ∷ [])) (at 2023 7 1 23 0) (at 2023 7 1 23 30) (54000000000 ∷ 0 ∷ 0 ∷ 0 ∷ 0 ∷ 0 ∷ 36000000000 ∷ [])
    -- a run of no ticks moves the end alone
    ∷ adds zone_p (tally (at 2023 7 1 23 0) (36000000000 ∷ 0 ∷ 0 ∷ 0 ∷ 0 ∷ 0 ∷ 36000000000 ∷ [])) (at 2023 7 2 12 0) (at 2023 7 2 12 0) (36000000000 ∷ 0 ∷ 0 ∷ 0 ∷ 0 ∷ 0 ∷ 36000000000 ∷ [])
    -- the south's two Sundays with a switch in 2023, of 25 and of 23 hours
    ∷ adds south fresh (at 2023 4 1 11 0) (at 2023 4 2 12 0) (900000000000 ∷ 0 ∷ 0 ∷ 0 ∷ 0 ∷ 0 ∷ 0 ∷ [])
    ∷ adds south fresh (at 2023 9 23 12 0) (at 2023 9 24 11 0) (828000000000 ∷ 0 ∷ 0 ∷ 0 ∷ 0 ∷ 0 ∷ 0 ∷ [])
    -- a switch that is seen at the UTC new year: Monday 2024-01-01 has 23 hours
    ∷ adds new_year fresh (at 2023 12 31 23 0) (at 2024 1 1 22 0) (0 ∷ 828000000000 ∷ 0 ∷ 0 ∷ 0 ∷ 0 ∷ 0 ∷ [])
    -- switches at 23:59:59.999: in spring Sunday's last millisecond is left out, and the 24th hour of the run ends on Monday; in autumn Sunday has 25 hours
    ∷ adds (late 59 999) fresh (at 2023 3 25 23 0) (at 2023 3 26 23 0) (863999990000 ∷ 10000 ∷ 0 ∷ 0 ∷ 0 ∷ 0 ∷ 0 ∷ [])
    ∷ adds (late 59 999) fresh (at 2023 10 28 22 0) (at 2023 10 29 23 0) (900000000000 ∷ 0 ∷ 0 ∷ 0 ∷ 0 ∷ 0 ∷ 0 ∷ [])
    ∷ []
