-- What a booking writes and shows, of the bytes of its three files: the zone file's text, the saved tally and the log.
use Rattle.std.specs.Prelude.{ℕ, Bool, true, List, Option}
use Rattle.tally.specs.Saved.{read_tally}
use Rattle.tally.specs.Answers.{or_else, no_tally}
use Rattle.hex_text.specs.Hex.{record_of}
use Rattle.run_log.specs.declared.Log.{Log}
use Rattle.zones.specs.declared.reading.Kind.{Kind}
use Rattle.booking_job.specs.ZoneText.{row_in}
use Rattle.booking_job.specs.Booked.{booked, record_for, text_for}

-- the log after all of its text, in the zone's row, on the saved tally; with room for `most` bytes of a record and `room` bytes of a line
abbrev pub log_of : Option Kind → ℕ → ℕ → List ℕ → List ℕ → List ℕ → Log
log_of asked most room zone saved log = booked (row_in asked (record_of most zone)) room (or_else (read_tally saved) no_tally) log

abbrev pub written : Option Kind → ℕ → ℕ → List ℕ → List ℕ → List ℕ → List ℕ
written asked most room zone saved log = record_for true (log_of asked most room zone saved log)

abbrev pub shown_text : Bool → Option Kind → ℕ → ℕ → List ℕ → List ℕ → List ℕ → List ℕ
shown_text csv asked most room zone saved log = text_for csv true (log_of asked most room zone saved log)
