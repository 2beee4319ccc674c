-- Every script is a list that demand 3 speaks of: each reading in it is given the last saved record, if no run was accepted since, or no bytes.
use mathlib.Core.Path.{◌≡◌, refl, ap}
use mathlib.Core.Bool.{Bool, true, false}
use mathlib.Core.List.{List, [], ◌∷◌}
use mathlib.Core.Logic.{inl, inr}
use Prim.Native.Nat.{ℕ, zero, suc}
use native.Mathlib.Omega.{arith}
use lib.Dec.{leb}
use lib.ListN.{length, take}
use Rattle.std.specs.Prelude.{Option, Some, None}
use Rattle.refusal.specs.Outcome.{Outcome, refused, answered, require, ◌>>◌}
use Rattle.refusal.specs.Lent.{written, lent_after}
use Rattle.totals.specs.Totals.{grown}
use Rattle.zone.specs.declared.rules.Rule.{Rule}
use Rattle.zone.specs.declared.ticks.UtcTick.{UtcTick}
use Rattle.rows.specs.Row.{check_row}
use Rattle.tally.specs.declared.tallies.Tally.{Tally}
use Rattle.tally.specs.Tallies.{fresh, holds}
use Rattle.tally.specs.Booking as booking
use Rattle.tally.specs.Booking.{check_run, with_run}
use Rattle.tally.specs.Saved.{record_of, save_tally, recorded, readable, read_tally}
use Rattle.tally.specs.Answers.{or_else}
use Rattle.tally.proofs.saved.SavedLaws.{length-record}
use Rattle.account.specs.Calls.{Call, book, save, read, Told, booked, saved, told_of, tally_after, record_after, Allowed, AllowedFrom, Listed}
use Rattle.script.specs.declared.ScriptCall.{ScriptCall}
use Rattle.script.specs.Scripts.{record_in, call_of_kind, call_of, buffer_after, kept_after, scripted_from, scripted}

-- ---- a script's tally has seven totals
abbrev Seven : Tally → Type 0
Seven t = length t.totals ≡ 7

seven_run : (row : List Rule) (t : Tally) (a b : UtcTick) → Seven (with_run row t a b)
unfolding with_run grown
seven_run row t a b = refl

seven-recorded : (s : List ℕ) → Seven (recorded s)
unfolding recorded
seven-recorded s = refl

seven-after : (row : List Rule) (t : Tally) (c : Call) → Seven t → Seven (tally_after row t c)
unfolding tally_after booking.book read_tally
seven-after row t (book a b) h = go (check_row row) (require (holds t) 18) (check_run row t.end a b)
  where
    go : (o p q : Outcome (Unit {0})) → Seven (or_else (o >> (p >> (q >> answered (with_run row t a b)))) t)
    go (refused n) p q = h
    go (answered x) (refused n) q = h
    go (answered x) (answered y) (refused n) = h
    go (answered x) (answered y) (answered z) = seven_run row t a b
seven-after row t (save out) h = h
seven-after row t (read s) h = go (readable s)
  where
    go : (b : Bool) → Seven (or_else (require b 18 >> answered (recorded s)) t)
    go true = seven-recorded s
    go false = h

-- ---- while the mark stands, what may be read is the start of the buffer
abbrev Marked : Bool → Option (List ℕ) → List ℕ → Type 0
Marked kept last buffer = kept ≡ true → last ≡ Some (take 68 buffer)

unmarked : {A : Type 0} → false ≡ true → A
unmarked e = let x : ◌≡◌ {A = ℕ} 0 1 = cc in absurd (omega arith)

module _ (last : Option (List ℕ)) (buffer : List ℕ) where
  reading : (kept : Bool) → Marked kept last buffer → Allowed last (read (record_in buffer kept))
  unfolding readable
  reading true m = inl (m refl)
  reading false m = inr refl

  allowed-call : (k : ℕ) (a b : UtcTick) (kept : Bool) → Marked kept last buffer → Allowed last (call_of_kind k a b buffer kept)
  allowed-call zero a b kept m = tt
  allowed-call (suc zero) a b kept m = tt
  allowed-call (suc (suc n)) a b kept m = reading kept m

  abbrev MarkedAfter : Told → Bool → Type 0
  MarkedAfter told kept = Marked (kept_after told kept) (record_after told last) (buffer_after told buffer)

  after-book : (r : Outcome Tally) (kept : Bool) → Marked kept last buffer → MarkedAfter (booked r) kept
  after-book (refused n) kept m = m
  after-book (answered t) kept m = λ e. unmarked e

  after-save : (t : Tally) → Seven t → (kept : Bool) → Marked kept last buffer
      → MarkedAfter (saved (written (save_tally t (length buffer))) (lent_after (save_tally t (length buffer)) buffer)) kept
  unfolding save_tally
  after-save t seven kept m = go (holds t) (leb (length (record_of t)) (length buffer))
    where
      made : Bool → Bool → Outcome (List ℕ)
      made h b = require h 18 >> (require b 13 >> answered (record_of t))

      go : (h b : Bool) → MarkedAfter (saved (written (made h b)) (lent_after (made h b) buffer)) kept
      go true true = λ e. ap (λ (n : ℕ). Some (take n (lent_after (answered (record_of t)) buffer))) (length-record t seven)
      go true false = m
      go false b = m

  after_call : (row : List Rule) (t : Tally) → Seven t → (k : ℕ) (a b : UtcTick) (kept : Bool) → Marked kept last buffer → MarkedAfter (told_of row t (call_of_kind k a b buffer kept)) kept
  unfolding told_of
  after_call row t seven zero a b kept m = after-book (booking.book row t a b) kept m
  after_call row t seven (suc zero) a b kept m = after-save t seven kept m
  after_call row t seven (suc (suc n)) a b kept m = m

-- ---- the whole
allowed : (row : List Rule) (cs : List ScriptCall) (t : Tally) (buffer : List ℕ) (kept : Bool) (last : Option (List ℕ)) → Seven t → Marked kept last buffer
    → AllowedFrom row t last (scripted_from row t buffer kept cs)
allowed row [] t buffer kept last seven m = tt
allowed row (c ∷ cs) t buffer kept last seven m =
    let call : Call = call_of c buffer kept in
    let told : Told = told_of row t call in (
      allowed-call last buffer c.kind c.from c.to kept m,
      allowed row cs (tally_after row t call) (buffer_after told buffer) (kept_after told kept) (record_after told last) (seven-after row t call seven)
          (after_call last buffer row t seven c.kind c.from c.to kept m),
    )

seven-fresh : Seven fresh
unfolding fresh
seven-fresh = refl

-- THE CLAIM: no caller has to show that its list is one that the demand speaks of
pub listed : (row : List Rule) (calls : List ScriptCall) (buffer : List ℕ) → Listed row (scripted row calls buffer)
unfolding Listed
listed row calls buffer = allowed row calls fresh buffer false None seven-fresh (λ e. unmarked e)
