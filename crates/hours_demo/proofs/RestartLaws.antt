-- A tally that holds, saved into a record's room and read back from it.
use Rattle.std.proofs.Common.{ℕ, ◌≤◌, ◌≡◌, ap, ◌∙◌, true, List, ◌++◌, length, arith}
use Rattle.std.proofs.Math.ListN.{drop_of_length-le}
use Rattle.std.proofs.lemmas.List.{append-nil}
use Rattle.refusal.specs.Outcome.{Outcome, answered}
use Rattle.refusal.specs.Lent.{lent_after}
use Rattle.tally.specs.declared.tallies.Tally.{Tally}
use Rattle.tally.specs.Tallies.{holds}
use Rattle.tally.specs.Saved.{record_of, save_tally, read_tally}
use Rattle.tally.specs.Answers.{or_else, no_tally}
use Rattle.tally.proofs.saved.SavedLaws.{length-record}
use Rattle.tally.proofs.saved.RoundTrip.{round_trip}

module _ (t : Tally) (seven : length t.totals ≡ 7) (h : holds t ≡ true) (old : List ℕ) (room : length old ≡ 68) where
  saved : save_tally t (length old) ≡ answered (record_of t)
  unfolding save_tally
  saved = rw (h, length-record t seven, room)

  all-written : lent_after (save_tally t (length old)) old ≡ record_of t
  all-written =
      let fits : length old ≤ length (record_of t) = omega (arith, length-record t seven) in
      ap (λ (o : Outcome (List ℕ)). lent_after o old) saved
      ∙ ap (λ (l : List ℕ). record_of t ++ l) (drop_of_length-le old fits)
      ∙ append-nil (record_of t)

  pub again : or_else (read_tally (lent_after (save_tally t (length old)) old)) no_tally ≡ t
  again = ap (λ (s : List ℕ). or_else (read_tally s) no_tally) all-written ∙ ap (λ (o : Outcome Tally). or_else o no_tally) (round_trip t seven h)
