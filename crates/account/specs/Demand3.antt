-- Demand 3: the one claim about every list of bookings, savings and readings from a fresh tally, in one accepted zone.
use Rattle.std.specs.Prelude.{ℕ, ◌≡◌, List, [], ◌∷◌, ◌++◌}
use Rattle.refusal.specs.Outcome.{refused, answered}
use Rattle.totals.specs.Totals.{sum}
use Rattle.zone.specs.declared.rules.Rule.{Rule}
use Rattle.rows.specs.Row.{check_row}
use Rattle.tally.specs.Tallies.{seven}
use Rattle.account.specs.Calls.{Call, book, save, read, Told, booked, saved, got, outcomes, Listed}
use Rattle.account.specs.Pencil.{Run, covered, ticks_on, time_run, account}

-- the run of a booking that was answered a tally
abbrev pub run_of : Call → Told → List Run
run_of (book a b) (booked (answered t)) = record { from = a; to = b } ∷ []
run_of (book a b) (booked (refused n)) = []
run_of (book a b) (saved r out) = []
run_of (book a b) (got r) = []
run_of (save out) t = []
run_of (read s) t = []

-- all such runs after some others, the last one first
abbrev pub accepted_after : List Run → List Call → List Told → List Run
accepted_after rs [] ts = rs
accepted_after rs (c ∷ cs) [] = rs
accepted_after rs (c ∷ cs) (t ∷ ts) = accepted_after (run_of c t ++ rs) cs ts

-- the accepted runs, as the answers really given say
unfoldable pub accepted : List Rule → List Call → List Run
accepted row cs = accepted_after [] cs (outcomes row cs).told

pub record Demand3 (row : List Rule) : Type 0 where
  -- each answer or refusal, each saved record and the tally are those of the pencil account
  pub same : (cs : List Call) → Listed row cs → outcomes row cs ≡ account row cs
  -- each weekday's total is the number of ticks in the accepted runs whose local weekday it is
  pub total : (cs : List Call) → Listed row cs → (outcomes row cs).tally.totals ≡ seven (ticks_on row (accepted row cs))
  -- the seven add up to the time run
  pub time : (cs : List Call) → Listed row cs → sum (outcomes row cs).tally.totals ≡ time_run (accepted row cs)
  -- two lists alike in the ticks that their accepted runs cover give the same seven totals
  pub alike :
      (cs ds : List Call) → Listed row cs → Listed row ds → ((u : ℕ) → covered (accepted row cs) u ≡ covered (accepted row ds) u)
      → (outcomes row cs).tally.totals ≡ (outcomes row ds).tally.totals

-- for every accepted zone
abbrev pub Demand : Type 0
Demand = (row : List Rule) → check_row row ≡ answered tt → Demand3 row
