-- Lists of calls on a tally, and what each is answered: the functions that the contracts of book, save and read name, one after the other.
use Rattle.std.specs.Prelude.{ℕ, ◌≡◌, false, List, [], ◌∷◌, ◌⊎◌, length, take, Option, Some, None}
use Rattle.refusal.specs.Outcome.{Outcome, refused, answered}
use Rattle.refusal.specs.Lent.{written, lent_after}
use Rattle.zone.specs.declared.rules.Rule.{Rule}
use Rattle.zone.specs.declared.ticks.UtcTick.{UtcTick}
use Rattle.tally.specs.declared.tallies.Tally.{Tally}
use Rattle.tally.specs.Tallies.{fresh}
use Rattle.tally.specs.Booking as booking
use Rattle.tally.specs.Saved.{save_tally, readable, read_tally}
use Rattle.tally.specs.Answers.{or_else}

-- book a run from a to before b; save into an output that holds these bytes; read these bytes
pub data Call : Type 0 where
  book : UtcTick → UtcTick → Call
  save : List ℕ → Call
  read : List ℕ → Call

-- the tally or the refusal; of a saving the count of bytes or the refusal, and the output after it
pub data Told : Type 0 where
  booked : Outcome Tally → Told
  saved : Outcome ℕ → List ℕ → Told
  got : Outcome Tally → Told

-- what a call is told, given the tally as the calls before left it
unfoldable pub told_of : List Rule → Tally → Call → Told
told_of row t (book a b) = booked (booking.book row t a b)
told_of row t (save out) = saved (written (save_tally t (length out))) (lent_after (save_tally t (length out)) out)
told_of row t (read s) = got (read_tally s)

-- an accepted booking or reading puts its answer in the tally's place
unfoldable pub tally_after : List Rule → Tally → Call → Tally
tally_after row t (book a b) = or_else (booking.book row t a b) t
tally_after row t (save out) = t
tally_after row t (read s) = or_else (read_tally s) t

-- what all calls of a list are told, and the tally after them
pub record Outcomes : Type 0 where
  pub told : List Told
  pub tally : Tally

unfoldable pub calls : List Rule → Tally → List Call → Outcomes
calls row t [] = record { told = []; tally = t }
calls row t (c ∷ cs) =
    let rest = calls row (tally_after row t c) cs in
    record { told = told_of row t c ∷ rest.told; tally = rest.tally }

-- from a fresh tally
abbrev pub outcomes : List Rule → List Call → Outcomes
outcomes row cs = calls row fresh cs

-- ---- the lists that demand 3 is about

-- The record that a reading may be given: the last one that a saving wrote, until a run is accepted.
abbrev pub record_after : Told → Option (List ℕ) → Option (List ℕ)
record_after (booked (answered t)) last = None
record_after (booked (refused n)) last = last
record_after (saved (answered n) out) last = Some (take n out)
record_after (saved (refused n) out) last = last
record_after (got r) last = last

-- a reading is given that record, or bytes that document 01 refuses
abbrev pub Allowed : Option (List ℕ) → Call → Type 0
Allowed last (book a b) = Unit {0}
Allowed last (save out) = Unit {0}
Allowed last (read s) = (last ≡ Some s) ⊎ (readable s ≡ false)

abbrev pub AllowedFrom : List Rule → Tally → Option (List ℕ) → List Call → Type 0
AllowedFrom row t last [] = Unit {0}
AllowedFrom row t last (c ∷ cs) = Allowed last c × AllowedFrom row (tally_after row t c) (record_after (told_of row t c) last) cs

-- from a fresh tally, with nothing saved
unfoldable pub Listed : List Rule → List Call → Type 0
Listed row cs = AllowedFrom row fresh None cs
