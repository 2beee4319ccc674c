-- What is claimed of bookings one after the other, in one zone: each goes on from the record that the one before wrote.
use Rattle.std.specs.Prelude.{ℕ, ◌≡◌, List, [], ◌∷◌, ◌++◌, replicate, Some, None}
use Rattle.refusal.specs.Outcome.{answered}
use Rattle.zone.specs.declared.rules.Rule.{Rule}
use Rattle.tally.specs.declared.tallies.Tally.{Tally}
use Rattle.tally.specs.Tallies.{fresh, seven}
use Rattle.tally.specs.Saved.{record_of, read_tally}
use Rattle.account.specs.Calls.{Call, save, read, Listed}
use Rattle.account.specs.Pencil.{ticks_on, account}
use Rattle.account.specs.Demand3.{accepted}
use Rattle.run_log.specs.Log.{lines_of}
use Rattle.booking_job.specs.Booked as spec
use Rattle.booking_job.specs.Booked.{saved_record}
use Rattle.bookings.specs.Bookings.{bookings, runs_after, last_after}

-- 68 zeros, which the record is written over
abbrev pub zeros : List ℕ
zeros = replicate 68 0

-- the calls of all bookings so far, and the record that the last one wrote
pub record History (row : List Rule) (cs : List Call) (s : List ℕ) : Type 0 where
  pub listed : Listed row cs
  pub last : last_after row fresh None cs ≡ Some s

-- what a booking of a log's text on a tally tells, after the calls `cs`, by the calls `ds` that it leads to
pub record Tells (row : List Rule) (room : ℕ) (t : Tally) (text : List ℕ) (cs ds : List Call) : Type 0 where
  -- the tally after the log, which is shown, is the account's
  pub tally : (spec.booked row room t text).tally ≡ (account row ds).tally
  -- the record that is written is the account's
  pub written : saved_record (spec.booked row room t text).tally ≡ record_of (account row ds).tally
  -- the totals are the numbers of ticks in all accepted runs, by local weekday
  pub totals : (spec.booked row room t text).tally.totals ≡ seven (ticks_on row (accepted row ds))
  -- where no line of the log was wrong, those are the runs of its lines and the ones accepted before
  pub runs : (spec.booked row room t text).faults ≡ 0 → accepted row ds ≡ runs_after (accepted row cs) (bookings room 0 (lines_of text))
  -- and the next booking may go on from it
  pub next : History row (ds ++ save zeros ∷ []) (saved_record (spec.booked row room t text).tally)

-- the logs that were booked since the tally was begun, the last one first; the calls that they come to; and the record that stands in the file
pub data Booked (row : List Rule) (room : ℕ) : List (List ℕ) → List Call → List ℕ → Type 0 where
  new : Booked row room [] (save zeros ∷ []) (saved_record fresh)
  later : {texts : List (List ℕ)} {cs : List Call} {s : List ℕ} → Booked row room texts cs s → (t : Tally) → read_tally s ≡ answered t → (text : List ℕ)
      → Booked row room (text ∷ texts) ((cs ++ read s ∷ bookings room 0 (lines_of text)) ++ save zeros ∷ []) (saved_record (spec.booked row room t text).tally)
