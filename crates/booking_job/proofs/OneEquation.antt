-- The whole booking as one equation: what is to be written and shown is what the definition says of the three files' bytes, however the log was cut.
use Prim.Native.Nat.{ℕ}
use mathlib.Core.Path.{◌≡◌, ap, ◌∙◌}
use mathlib.Core.Bool.{Bool, true}
use mathlib.Core.List.{List, foldl}
use Rattle.std.specs.Prelude.{Option}
use Rattle.zone.specs.declared.rules.Rule.{Rule}
use Rattle.page.specs.Pages.{text_of}
use Rattle.tally.specs.declared.tallies.Tally.{Tally}
use Rattle.tally.specs.Saved.{read_tally}
use Rattle.tally.specs.Answers.{or_else, no_tally}
use Rattle.hex_text.specs.Hex.{record_of}
use Rattle.zones.specs.declared.reading.Kind.{Kind}
use Rattle.zones.specs.declared.reading.Zone.{Zone}
use Rattle.zones.specs.Zones.{row_of}
use Rattle.run_log.specs.declared.Job.{Job}
use Rattle.run_log.specs.Feed.{Fed, begun, fed, end_of, state_of}
use Rattle.run_log.proofs.FeedLaws.{joined}
use Rattle.booking_job.specs.declared.booking.Done.{Done}
use Rattle.booking_job.specs.ZoneText.{row_in}
use Rattle.booking_job.specs.Booked.{open_log, open_job, booked, Books}
use Rattle.booking_job.specs.Whole.{log_of, written, shown_text}
use Rattle.booking_job.proofs.BookedLaws.{booked-in-pieces}

module _ (asked : Option Kind) (most room : ℕ) (zone saved : List ℕ) (pieces : List (List ℕ)) (csv : Bool) where
  -- the calls of a booking one after the other, each by its contract: `zone_in`, `begin`, `feed` for each piece, `finish`
  pub record Made (z : Zone) (job : Job) (carried : List ℕ) (last : Fed) (done : Done) : Type 0 where
    pub zone-in : row_of z ≡ row_in asked (record_of most zone)
    pub begin : job ≡ open_job (or_else (read_tally saved) no_tally)
    pub feed : last ≡ foldl (fed (row_of z) room) (state_of job carried) pieces
    pub finish : Books csv true (end_of (row_of z) last) done

  module _ (z : Zone) (job : Job) (carried : List ℕ) (last : Fed) (done : Done) (made : Made z job carried last done) where
    comes-to : end_of (row_of z) last ≡ log_of asked most room zone saved (joined pieces)
    comes-to =
        let t : Tally = or_else (read_tally saved) no_tally in
        let begins : state_of job carried ≡ begun (open_log t) = ap (λ (j : Job). state_of j carried) made.begin in
        ap (end_of (row_of z)) (made.feed ∙ ap (λ (s : Fed). foldl (fed (row_of z) room) s pieces) begins)
        ∙ booked-in-pieces (row_of z) room t pieces
        ∙ ap (λ (row : List Rule). booked row room t (joined pieces)) made.zone-in

    books : Books csv true (log_of asked most room zone saved (joined pieces)) done
    books = rw (← comes-to) made.finish

    pub one-equation : (done.saved ≡ written asked most room zone saved (joined pieces)) × (text_of done.page ≡ shown_text csv asked most room zone saved (joined pieces))
    one-equation = (books.3, books.4)
