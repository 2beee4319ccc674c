-- The numbers that the calls of a list, and document 01's pencil account of them, are refused with.
use Prim.Native.Nat.{ℕ}
use mathlib.Core.List.{List, [], ◌∷◌}
use lib.Dec.{leb}
use lib.ListN.{length}
use Rattle.refusal.specs.Outcome.{Outcome, refused, answered}
use Rattle.refusal.specs.Lent.{fitting, written}
use Rattle.refusal.proofs.Gives.{OneOf, Gives, gives-bind, gives_then, gives-test, gives_more, one_more}
use Rattle.zone.specs.declared.rules.Rule.{Rule}
use Rattle.zone.specs.declared.ticks.UtcTick.{UtcTick}
use Rattle.rows.specs.Row.{check_row}
use Rattle.rows.proofs.CheckLaws.{row_gives}
use Rattle.tally.specs.declared.tallies.Tally.{Tally}
use Rattle.tally.specs.Tallies.{holds}
use Rattle.tally.specs.Booking as booking
use Rattle.tally.specs.Booking.{check_run}
use Rattle.tally.specs.Saved.{record_of, save_tally, readable, read_tally}
use Rattle.tally.proofs.Numbers.{book_numbers, BookNumber, run-gives, book-gives}
use Rattle.account.specs.Calls.{Call, book, save, read, Told, booked, saved, got, told_of, tally_after, calls}
use Rattle.account.specs.Pencil.{Pencil, tally_of, noting, pencil_told, pencil_after, pencil}

-- those of a booking, and 13 of a saving
abbrev pub tally_numbers : List ℕ
tally_numbers = 13 ∷ book_numbers

abbrev pub TallyNumber : ℕ → Type 0
TallyNumber = OneOf tally_numbers

-- what holds of the number that a call may have been told, and of those of all calls of a list
abbrev pub Tells : (ℕ → Type 0) → Told → Type 0
Tells P (booked o) = Gives P o
Tells P (saved o out) = Gives P o
Tells P (got o) = Gives P o

abbrev pub AllTell : (ℕ → Type 0) → List Told → Type 0
AllTell P [] = Unit {0}
AllTell P (t ∷ ts) = Tells P t × AllTell P ts

module _ (P Q : ℕ → Type 0) (more : (n : ℕ) → P n → Q n) where
  tells_more : (t : Told) → Tells P t → Tells Q t
  tells_more (booked o) k = gives_more P Q o more k
  tells_more (saved o out) k = gives_more P Q o more k
  tells_more (got o) k = gives_more P Q o more k

  pub all-tell-more : (ts : List Told) → AllTell P ts → AllTell Q ts
  all-tell-more [] k = tt
  all-tell-more (t ∷ ts) k = (tells_more t k.0, all-tell-more ts k.1)

written-gives : (o : Outcome (List ℕ)) → Gives TallyNumber o → Gives TallyNumber (written o)
written-gives (refused n) k = k
written-gives (answered new) k = tt

fitting-gives : (new : List ℕ) (room : ℕ) → Gives TallyNumber (fitting new room)
fitting-gives new room = gives-test TallyNumber (leb (length new) room) 13 _ tt tt

-- ---- the library's calls
told-gives : (row : List Rule) (t : Tally) (c : Call) → Tells TallyNumber (told_of row t c)
unfolding told_of save_tally read_tally
told-gives row t (book a b) = gives_more BookNumber TallyNumber (booking.book row t a b) (one_more 13 book_numbers) (book-gives row t a b)
told-gives row t (save out) = written-gives (save_tally t (length out)) (gives-test TallyNumber (holds t) 18 _ tt (fitting-gives (record_of t) (length out)))
told-gives row t (read s) = gives-test TallyNumber (readable s) 18 _ tt tt

-- THE LAW: whatever calls are made, from whatever tally
pub calls-give : (row : List Rule) (t : Tally) (cs : List Call) → AllTell TallyNumber (calls row t cs).told
unfolding calls
calls-give row t [] = tt
calls-give row t (c ∷ cs) = (told-gives row t c, calls-give row (tally_after row t c) cs)

-- ---- the pencil account
noting-gives : (row : List Rule) (p : Pencil) (a b : UtcTick) → Gives TallyNumber (noting row p a b)
unfolding noting
noting-gives row p a b =
    gives_then TallyNumber (check_row row) _ (row_gives TallyNumber tt tt tt tt tt tt row)
    (gives_then TallyNumber (check_run row p.end a b) _ (run-gives TallyNumber tt tt tt row p.end a b) tt)

pencil-told-gives : (row : List Rule) (p : Pencil) (c : Call) → Tells TallyNumber (pencil_told row p c)
unfolding pencil_told
pencil-told-gives row p (book a b) = gives-bind TallyNumber (noting row p a b) _ (noting-gives row p a b) (λ q. tt)
pencil-told-gives row p (save out) = written-gives (fitting (record_of (tally_of row p)) (length out)) (fitting-gives (record_of (tally_of row p)) (length out))
pencil-told-gives row p (read s) = gives-test TallyNumber (readable s) 18 _ tt tt

-- THE LAW: whatever calls the account is fed, from whatever page
pub pencil-gives : (row : List Rule) (p : Pencil) (cs : List Call) → AllTell TallyNumber (pencil row p cs).told
unfolding pencil
pencil-gives row p [] = tt
pencil-gives row p (c ∷ cs) = (pencil-told-gives row p c, pencil-gives row (pencil_after row p c) cs)
