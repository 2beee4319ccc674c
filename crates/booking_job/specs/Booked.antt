-- What a booking comes to: the record that is to be written, and the text that is to be shown.
use Rattle.std.specs.Prelude.{ℕ, ◌≡◌, Bool, true, false, cond, List, [], replicate, eqb}
use Rattle.refusal.specs.Number.{refusal_of}
use Rattle.refusal.specs.Outcome.{Outcome, refused, answered}
use Rattle.refusal.specs.Lent.{lent_after}
use Rattle.zone.specs.declared.rules.Rule.{Rule}
use Rattle.page.specs.Pages.{text_of}
use Rattle.sheet.specs.Table.{table_text}
use Rattle.sheet.specs.Csv.{csv_text}
use Rattle.tally.specs.declared.tallies.Tally.{Tally}
use Rattle.tally.specs.Saved.{save_tally, read_tally}
use Rattle.log_lines.specs.declared.faults.Fault.{Fault}
use Rattle.run_log.specs.declared.Log.{Log}
use Rattle.run_log.specs.declared.Job.{Job}
use Rattle.run_log.specs.Feed.{log_taken}
use Rattle.booking_job.specs.Bytes.{same_bytes}
use Rattle.booking_job.specs.declared.booking.Start.{Start}
use Rattle.booking_job.specs.declared.booking.Done.{Done}

-- ---- beginning
-- before the first line of a log
abbrev pub open_log : Tally → Log
open_log t = record { tally = t; lines = 0; faults = 0; noted = replicate 20 (record { line = 0; fault = Fault.TooLong }) }

abbrev pub open_job : Tally → Job
open_job t = record { log = open_log t; len = 0; stopped = false }

-- the zone's record, and the record of the zone that the tally was kept in, have to be the same
abbrev pub start_in : List ℕ → List ℕ → Start
start_in zone kept = cond (same_bytes zone kept) Start.Ready Start.OtherZone

abbrev pub start_read : Start → Outcome Tally → Start
start_read there (answered t) = there
start_read there (refused n) = Start.Refused (refusal_of n)

-- the tally has to be one, and then the zone to be its own
abbrev pub start_of : List ℕ → List ℕ → List ℕ → Start
start_of zone kept saved = start_read (start_in zone kept) (read_tally saved)

-- ---- the log
-- after all of its text
unfoldable pub booked : List Rule → ℕ → Tally → List ℕ → Log
booked row room t text = log_taken row room text (open_log t)

-- ---- what is to be written and shown
abbrev pub saved_record : Tally → List ℕ
saved_record t = lent_after (save_tally t 68) (replicate 68 0)

abbrev pub shown : Bool → Tally → List ℕ
shown true t = csv_text t
shown false t = table_text t

-- a booking stands where the log came whole, and no line of it was wrong
abbrev pub stands : Bool → Log → Bool
stands whole log = cond whole (eqb log.faults 0) false

abbrev pub record_for : Bool → Log → List ℕ
record_for whole log = cond (stands whole log) (saved_record log.tally) (replicate 68 0)

abbrev pub text_for : Bool → Bool → Log → List ℕ
text_for csv whole log = cond (stands whole log) (shown csv log.tally) []

abbrev pub Books : Bool → Bool → Log → Done → Type 0
Books csv whole log done =
    (done.stands ≡ stands whole log) × (done.faults ≡ log.faults) × (done.noted ≡ log.noted) × (done.saved ≡ record_for whole log) × (text_of done.page ≡ text_for csv whole log)
