-- What the bytes of tally files come to.
use Rattle.std.specs.Prelude.{ℕ, Bool, cond, List, [], Result, Ok, Err}
use Rattle.refusal.specs.Number.{refusal_of}
use Rattle.refusal.specs.declared.Refusal.{Refusal}
use Rattle.refusal.specs.Outcome.{Outcome, refused, answered}
use Rattle.page.specs.declared.Page.{Page}
use Rattle.page.specs.Pages.{text_of}
use Rattle.tally.specs.declared.tallies.Tally.{Tally}
use Rattle.tally.specs.Saved.{read_tally}
use Rattle.booking_job.specs.Bytes.{same_bytes}
use Rattle.booking_job.specs.Booked.{shown}
use Rattle.booking_job.specs.declared.tallies.Undo.{Undo}

-- the text of a page; none beside a refusal
abbrev pub text_told : Result Page Refusal → List ℕ
text_told (Ok page) = text_of page
text_told (Err why) = []

abbrev pub sheet_text : Bool → Outcome Tally → List ℕ
sheet_text csv (answered t) = shown csv t
sheet_text csv (refused n) = []

-- the older tally takes the place of the one that is saved, unless both are the same
abbrev pub undo_in : List ℕ → List ℕ → Undo
undo_in old saved = cond (same_bytes old saved) Undo.Same Undo.Back

abbrev pub undo_read : Undo → Outcome Tally → Undo
undo_read there (answered t) = there
undo_read there (refused n) = Undo.Refused (refusal_of n)

abbrev pub undo_of : List ℕ → List ℕ → Undo
undo_of old saved = undo_read (undo_in old saved) (read_tally old)
