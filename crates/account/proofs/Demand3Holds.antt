-- Demand 3: the calls, each on the tally that the calls before left, do what the pencil account does.
use Prim.Native.Nat.{ℕ}
use mathlib.Core.Path.{◌≡◌, refl, sym, ap, ap₂, ◌∙◌, subst}
use mathlib.Core.Bool.{Bool, true, false}
use mathlib.Core.List.{List, [], ◌∷◌}
use mathlib.Core.Logic.{inl, inr}
use native.Mathlib.Omega.{arith}
use lib.Dec.{leb}
use lib.ListN.{length, drop}
use lib.Seq.{take_at}
use Rattle.std.specs.Prelude.{Option, Some, None}
use Rattle.refusal.specs.Outcome.{Outcome, refused, answered, require, ◌>>=◌, ◌>>◌}
use Rattle.refusal.specs.Lent.{written, lent_after}
use Rattle.totals.specs.Totals.{sum}
use Rattle.zone.specs.declared.rules.Rule.{Rule}
use Rattle.zone.specs.declared.ticks.UtcTick.{UtcTick}
use Rattle.rows.specs.Row.{check_row}
use Rattle.tally.specs.declared.tallies.Tally.{Tally}
use Rattle.tally.specs.Tallies.{seven}
use Rattle.tally.specs.Booking as booking
use Rattle.tally.specs.Booking.{check_run, with_run}
use Rattle.tally.specs.Saved.{record_of, save_tally, recorded, readable, read_tally}
use Rattle.tally.specs.Answers.{or_else}
use Rattle.tally.proofs.saved.RoundTrip.{recorded-again}
use Rattle.account.specs.Calls.{Call, book, save, read, Told, booked, saved, got, Outcomes, told_of, tally_after, calls, outcomes, record_after, Allowed, AllowedFrom, Listed}
use Rattle.account.specs.Pencil.{Run, Pencil, ticks_on, time_run, opened, tally_of, noting, or_kept, pencil_after, pencil_told, pencil}
use Rattle.account.specs.Demand3.{Demand3, accepted_after, accepted, Demand}
use Rattle.account.proofs.Noting.{accepts, Kept, total, alike-ticks, tally-holds, opened-tally, opened-kept, with_note, with-run, noted-kept}

-- ---- a call

-- the call c, told x and leaving the tally t, with the pencil account going from p to q and telling y
record Goes (row : List Rule) (p : Pencil) (last : Option (List ℕ)) (c : Call) (x y : Told) (t : Tally) (q : Pencil) : Type 0 where
  told : x ≡ y
  next : t ≡ tally_of row q
  kept : Kept row q (record_after x last)
  runs : (cs : List Call) (ts : List Told) → accepted_after p.noted (c ∷ cs) (x ∷ ts) ≡ accepted_after q.noted cs ts

abbrev Step : List Rule → Pencil → Option (List ℕ) → Call → Type 0
Step row p last c = Goes row p last c (told_of row (tally_of row p) c) (pencil_told row p c) (tally_after row (tally_of row p) c) (pencil_after row p c)

false-true : false ≡ true → ⊥
false-true e = let x : ◌≡◌ {A = ℕ} 0 1 = cc in omega arith

some_inj : {x y : List ℕ} → ◌≡◌ {A = Option (List ℕ)} (Some x) (Some y) → x ≡ y
some_inj e = cc

module _ (row : List Rule) (p : Pencil) (last : Option (List ℕ)) (k : Kept row p last) where
  abbrev tally : Tally
  tally = tally_of row p

  -- a booking, where the row's check says o, the tally holds or not, and the run's check says c
  abbrev Books : UtcTick → UtcTick → Outcome (Unit {0}) → Bool → Outcome (Unit {0}) → Type 0
  Books a b o h c =
      let r : Outcome Tally = o >> (require h 18 >> (c >> answered (with_run row tally a b))) in
      let n : Outcome Pencil = o >> (c >> answered (with_note p a b)) in
      Goes row p last (book a b) (booked r) (booked (n >>= (λ q. answered (tally_of row q)))) (or_else r tally) (or_kept n p)

  books : (a b : UtcTick) (o c : Outcome (Unit {0})) → check_run row p.end a b ≡ c → Books a b o true c
  books a b (refused n) c e = record { told = refl; next = refl; kept = k; runs = λ cs ts. refl }
  books a b (answered u) (refused n) e = record { told = refl; next = refl; kept = k; runs = λ cs ts. refl }
  books a b (answered u) (answered v) e =
      let y = accepts row p.end a b e in
      let g = with-run row p last k a b y in
      record { told = ap (λ (t : Tally). booked (answered t)) g; next = g; kept = noted-kept row p last k a b y; runs = λ cs ts. refl }

  booking-goes : (a b : UtcTick) → Step row p last (book a b)
  unfolding told_of pencil_told tally_after pencil_after booking.book noting tally_of
  booking-goes a b =
      subst (λ (h : Bool). Books a b (check_row row) h (check_run row p.end a b)) (sym (tally-holds row p last k))
      (books a b (check_row row) (check_run row p.end a b) refl)

  -- a saving, where the tally holds or not, and the output is long enough or not
  abbrev Saves : List ℕ → Bool → Bool → Type 0
  Saves out h b =
      let f : Outcome (List ℕ) = require b 13 >> answered (record_of tally) in
      let r : Outcome (List ℕ) = require h 18 >> f in
      Goes row p last (save out) (saved (written r) (lent_after r out)) (saved (written f) (lent_after f out)) tally p

  saves : (out : List ℕ) (b : Bool) → Saves out true b
  saves out true =
      record {
        told = refl;
        next = refl;
        kept =
            record {
              span = k.span;
              off = k.off;
              time = k.time;
              saved = λ s e. sym (some_inj e) ∙ take_at (record_of tally) (drop (length (record_of tally)) out) (length (record_of tally)) refl;
            };
        runs = λ cs ts. refl;
      }
  saves out false = record { told = refl; next = refl; kept = k; runs = λ cs ts. refl }

  saving-goes : (out : List ℕ) → Step row p last (save out)
  unfolding told_of pencil_told tally_after pencil_after save_tally
  saving-goes out =
      let b : Bool = leb (length (record_of tally)) (length out) in
      subst (λ (h : Bool). Saves out h b) (sym (tally-holds row p last k)) (saves out b)

  -- a reading of bytes that are readable or not, and record the tally t
  reads : (s : List ℕ) (b : Bool) (t : Tally) → (b ≡ true → t ≡ tally)
      → Goes row p last (read s) (got (require b 18 >> answered t)) (got (require b 18 >> answered tally)) (or_else (require b 18 >> answered t) tally) p
  reads s true t h = record { told = ap (λ (t : Tally). got (answered t)) (h refl); next = h refl; kept = k; runs = λ cs ts. refl }
  reads s false t h = record { told = refl; next = refl; kept = k; runs = λ cs ts. refl }

  seven-totals : length tally.totals ≡ 7
  unfolding tally_of
  seven-totals = refl

  back : (s : List ℕ) → Allowed last (read s) → readable s ≡ true → recorded s ≡ tally
  back s (inr n) e = absurd (false-true (sym n ∙ e))
  back s (inl l) e = ap recorded (k.saved s l) ∙ recorded-again tally seven-totals (tally-holds row p last k)

  reading-goes : (s : List ℕ) → Allowed last (read s) → Step row p last (read s)
  unfolding told_of pencil_told tally_after pencil_after read_tally
  reading-goes s ok = reads s (readable s) (recorded s) (back s ok)

  step : (c : Call) → Allowed last c → Step row p last c
  step (book a b) ok = booking-goes a b
  step (save out) ok = saving-goes out
  step (read s) ok = reading-goes s ok

-- ---- a list

abbrev join : Told → Outcomes → Outcomes
join x o = record { told = x ∷ o.told; tally = o.tally }

-- what the outcomes o of the calls are, where the account stands at p: the account's, and the totals and the time of the accepted runs
record Ends (row : List Rule) (p : Pencil) (cs : List Call) (o : Outcomes) : Type 0 where
  same : o ≡ pencil row p cs
  totals : o.tally.totals ≡ seven (ticks_on row (accepted_after p.noted cs o.told))
  time : sum o.tally.totals ≡ time_run (accepted_after p.noted cs o.told)

ends : (row : List Rule) (p : Pencil) (last : Option (List ℕ)) → Kept row p last → (cs : List Call) → AllowedFrom row (tally_of row p) last cs
    → Ends row p cs (calls row (tally_of row p) cs)
unfolding calls pencil tally_of
ends row p last k [] ok = record { same = refl; totals = refl; time = total row p.noted ∙ k.time }
ends row p last k (c ∷ cs) ok =
    let t = tally_of row p in
    let s = step row p last k c ok.0 in
    let q = pencil_after row p c in
    let later = record_after (told_of row t c) last in
    let u = tally_after row t c in
    let i = ends row q later s.kept cs (subst (λ (y : Tally). AllowedFrom row y later cs) s.next ok.1) in
    let j : Ends row q cs (calls row u cs) = subst (λ (y : Tally). Ends row q cs (calls row y cs)) (sym s.next) i in
    let r = sym (s.runs cs (calls row u cs).told) in
    record {
      same = ap₂ (λ (x : Told) (o : Outcomes). join x o) s.told j.same;
      totals = j.totals ∙ ap (λ (rs : List Run). seven (ticks_on row rs)) r;
      time = j.time ∙ ap time_run r;
    }

-- ---- from a fresh tally
from-fresh : (row : List Rule) (cs : List Call) → Listed row cs → Ends row opened cs (outcomes row cs)
unfolding Listed
from-fresh row cs ok =
    let e = opened-tally row in
    let i = ends row opened None (opened-kept row) cs (subst (λ (t : Tally). AllowedFrom row t None cs) e ok) in
    subst (λ (t : Tally). Ends row opened cs (calls row t cs)) (sym e) i

-- in every row; in one that is not accepted all bookings are refused, and nothing is noted
pub demand3-in : (row : List Rule) → Demand3 row
unfolding accepted opened
demand3-in row =
    record {
      same = λ cs l. (from-fresh row cs l).same;
      total = λ cs l. (from-fresh row cs l).totals;
      time = λ cs l. (from-fresh row cs l).time;
      alike = λ cs ds l m h. (from-fresh row cs l).totals ∙ alike-ticks row (accepted row cs) (accepted row ds) h ∙ sym (from-fresh row ds m).totals;
    }

-- THE CLAIM: demand 3, in full, for every accepted zone and every list
pub demand3 : Demand
demand3 row ok = demand3-in row
