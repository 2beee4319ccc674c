-- What a booking writes is the pencil account's record, and the next booking may read it: so the account goes on from booking to booking.
use Prim.Native.Nat.{ℕ}
use native.Mathlib.Omega.{arith}
use mathlib.Core.Path.{◌≡◌, refl, sym, ap, ◌∙◌, subst}
use mathlib.Core.List.{List, [], ◌∷◌, ◌++◌, append-nil}
use mathlib.Core.Bool.{true}
use lib.ListN.{length, take, drop}
use lib.Seq.{take-append_seam}
use lib.Dec.{leb}
use borrow.Author.Tests.{le-leb}
use Rattle.std.specs.Prelude.{Option, Some, None}
use Rattle.refusal.specs.Outcome.{refused, answered}
use Rattle.refusal.specs.Lent.{fitting, written, lent_after}
use Rattle.zone.specs.declared.rules.Rule.{Rule}
use Rattle.tally.specs.declared.tallies.Tally.{Tally}
use Rattle.tally.specs.Tallies.{fresh}
use Rattle.tally.specs.Saved.{record_of, read_tally}
use Rattle.tally.proofs.saved.SavedLaws.{length-record}
use Rattle.account.specs.Calls.{Call, save, read, Told, booked, saved, got, Outcomes, told_of, tally_after, calls, outcomes, record_after, Listed}
use Rattle.account.specs.Pencil.{Pencil, opened, tally_of, pencil_after, pencil_told, pencil, account}
use Rattle.account.proofs.Demand3Holds.{demand3-in}
use Rattle.run_log.specs.Log.{lines_of}
use Rattle.booking_job.specs.Booked as spec
use Rattle.booking_job.specs.Booked.{saved_record}
use Rattle.bookings.specs.Bookings.{bookings, last_after}
use Rattle.bookings.specs.History.{zeros, History, Tells, Booked, new, later}
use Rattle.bookings.proofs.LogAccount.{allowed-both, log-listed, log-calls, log-account}
use Rattle.bookings.proofs.LogRuns.{log-runs}

abbrev last_told : Told → List Told → Told
last_told d [] = d
last_told d (x ∷ ts) = last_told x ts

abbrev bytes_told : Told → List ℕ
bytes_told (booked o) = []
bytes_told (saved n out) = out
bytes_told (got o) = []

module _ (row : List Rule) where
  -- ---- a saving at the end of a list
  calls_last : (d : Told) (t : Tally) (cs : List Call) (c : Call) → last_told d (calls row t (cs ++ c ∷ [])).told ≡ told_of row (calls row t cs).tally c
  unfolding calls
  calls_last d t [] c = refl
  calls_last d t (x ∷ cs) c = calls_last (told_of row t x) (tally_after row t x) cs c

  abbrev put : List ℕ → List ℕ → Told
  put r out = saved (written (fitting r (length out))) (lent_after (fitting r (length out)) out)

  pencil-last : (d : Told) (p : Pencil) (cs : List Call) (out : List ℕ) → last_told d (pencil row p (cs ++ save out ∷ [])).told ≡ put (record_of (pencil row p cs).tally) out
  unfolding pencil pencil_told
  pencil-last d p [] out = refl
  pencil-last d p (x ∷ cs) out = pencil-last (pencil_told row p x) (pencil_after row p x) cs out

  pencil-seven : (p : Pencil) (cs : List Call) → length (pencil row p cs).tally.totals ≡ 7
  unfolding pencil tally_of
  pencil-seven p [] = refl
  pencil-seven p (x ∷ cs) = pencil-seven (pencil_after row p x) cs

  last-both : (t : Tally) (last : Option (List ℕ)) (cs : List Call) (c : Call) → last_after row t last (cs ++ c ∷ []) ≡ record_after (told_of row (calls row t cs).tally c) (last_after row t last cs)
  unfolding last_after calls
  last-both t last [] c = refl
  last-both t last (x ∷ cs) c = last-both (tally_after row t x) (record_after (told_of row t x) last) cs c

  saving-listed : (cs : List Call) → Listed row cs → Listed row (cs ++ save zeros ∷ [])
  unfolding Listed
  saving-listed cs l = allowed-both row fresh None cs (save zeros ∷ []) l (tt, tt)

  -- the record fits, and is all of what is written
  fits : (r : List ℕ) → length r ≡ 68 → put r zeros ≡ saved (answered 68) r
  fits r n =
      let yes : leb (length r) 68 ≡ true = le-leb (length r) 68 (omega arith) in
      let none_left : drop 68 zeros ≡ [] = refl in
      rw (yes, n) (ap (λ (x : List ℕ). saved (answered 68) (r ++ x)) none_left ∙ ap (λ (x : List ℕ). saved (answered 68) x) (append-nil r))

  pub saving-told : (cs : List Call) → Listed row cs → told_of row (outcomes row cs).tally (save zeros) ≡ saved (answered 68) (record_of (account row cs).tally)
  saving-told cs l =
      let d : Told = got (refused 0) in
      sym (calls_last d fresh cs (save zeros))
      ∙ ap (λ (o : Outcomes). last_told d o.told) ((demand3-in row).same (cs ++ save zeros ∷ []) (saving-listed cs l))
      ∙ pencil-last d opened cs zeros
      ∙ fits (record_of (account row cs).tally) (length-record (account row cs).tally (pencil-seven opened cs))

  writes : (ds : List Call) → Listed row ds → (u : Tally) → u ≡ (outcomes row ds).tally → saved_record u ≡ record_of (account row ds).tally
  unfolding told_of
  writes ds l u e = ap saved_record e ∙ ap bytes_told (saving-told ds l)

  -- ---- from booking to booking
  pub saved-history : (cs : List Call) → Listed row cs → History row (cs ++ save zeros ∷ []) (record_of (account row cs).tally)
  saved-history cs l =
      let r : List ℕ = record_of (account row cs).tally in
      let n : length r ≡ 68 = length-record (account row cs).tally (pencil-seven opened cs) in
      record {
        listed = saving-listed cs l;
        last =
            last-both fresh None cs (save zeros)
            ∙ ap (λ (x : Told). record_after x (last_after row fresh None cs)) (saving-told cs l)
            ∙ ap Some (ap (λ (k : ℕ). take k r) (sym n) ∙ ap (take (length r)) (sym (append-nil r)) ∙ take-append_seam r []);
      }

  -- THE CLAIM about the tool: from a record that the booking before wrote
  pub tool : (cs : List Call) (s : List ℕ) → History row cs s → (t : Tally) → read_tally s ≡ answered t → (room : ℕ) (text : List ℕ)
      → Tells row room t text cs (cs ++ read s ∷ bookings room 0 (lines_of text))
  tool cs s h t e room text =
      let ds : List Call = cs ++ read s ∷ bookings room 0 (lines_of text) in
      let l : Listed row ds = log-listed row cs h.listed s h.last room text in
      let c : (spec.booked row room t text).tally ≡ (outcomes row ds).tally = log-calls row cs h.listed s h.last t e room text in
      let w : saved_record (spec.booked row room t text).tally ≡ record_of (account row ds).tally = writes ds l (spec.booked row room t text).tally c in
      record {
        tally = log-account row cs h.listed s h.last t e room text;
        written = w;
        totals = ap (λ (u : Tally). u.totals) c ∙ (demand3-in row).total ds l;
        runs = log-runs row cs s t e room text;
        next = subst (λ (r : List ℕ). History row (ds ++ save zeros ∷ []) r) (sym w) (saved-history ds l);
      }

  -- ---- all bookings of a tally
  new-history : History row (save zeros ∷ []) (saved_record fresh)
  unfolding Listed calls
  new-history = subst (λ (r : List ℕ). History row (save zeros ∷ []) r) (sym (writes [] tt fresh refl)) (saved-history [] tt)

  -- whatever was booked, in however many bookings: a list of demand 3, and the record is the one that its last saving wrote
  pub all-bookings : {room : ℕ} {texts : List (List ℕ)} {cs : List Call} {s : List ℕ} → Booked row room texts cs s → History row cs s
  all-bookings new = new-history
  all-bookings {room} (later {cs = cs} {s = s} b t e text) = (tool cs s (all-bookings b) t e room text).next
