-- The steps of a booking come to the definition.
use Prim.Native.Nat.{ℕ, ◌+◌, ◌≤◌}
use mathlib.Core.Path.{◌≡◌, refl, sym, ap, ◌∙◌}
use mathlib.Core.Bool.{Bool, true, false, ◌&&◌}
use mathlib.Core.List.{List}
use native.Mathlib.Omega.{arith}
use lib.ListN.{length, get_or}
use lib.Dec.{leb}
use borrow.Author.Tests.{leb-true}
use Rattle.std.specs.Prelude.{Option, Some, None, Ok}
use Rattle.refusal.specs.Outcome.{Outcome, refused, answered, require, ◌>>◌}
use Rattle.refusal.proofs.Known.{Known}
use Rattle.refusal.proofs.OutcomeLaws.{require-answered}
use Rattle.refusal.proofs.Tests.{both}
use Rattle.days.specs.Ticks.{year_of}
use Rattle.totals.specs.Totals.{sum, table, count_with, grown}
use Rattle.totals.proofs.TableLaws.{length-table, same-table, get_or-table, sum_first}
use Rattle.zone.specs.declared.rules.Rule.{Rule}
use Rattle.zone.specs.declared.ticks.UtcTick.{UtcTick}
use Rattle.rows.specs.Row.{check_row}
use Rattle.rows.specs.Search.{rule_in_force}
use Rattle.local_time.proofs.StepLaws.{check-is}
use Rattle.tally.specs.declared.tallies.Tally.{Tally}
use Rattle.tally.specs.declared.tallies.Answer.{Answer}
use Rattle.tally.specs.declared.booking.Booking.{Booking}
use Rattle.tally.specs.Tallies.{at, in_span, holds}
use Rattle.tally.specs.Booking.{local_weekday, check_run, with_run, book}
use Rattle.tally.specs.Answers.{of_tally, or_else, answer_of}
use Rattle.tally.specs.Steps.{Walking, asked, run_check, run_checks, seven_of, begun, walked, closed, walked_in, booked_in, booked_on}
use Rattle.tally.proofs.Numbers.{book-known}
use Rattle.tally.proofs.tallies.HoldingLaws.{spanned, holding}

-- ---- seven totals
seven-length : (totals : List ℕ) → length (seven_of totals) ≡ 7
unfolding seven_of
seven-length totals = length-table 0 7 (λ w. get_or totals w 0)

seven-sum : (totals : List ℕ) → sum (seven_of totals) ≤ sum totals
unfolding seven_of
seven-sum totals = sum_first 7 totals

grown-seven : (key : ℕ → ℕ) (totals : List ℕ) (a b : ℕ) → grown 7 key (seven_of totals) a b ≡ grown 7 key totals a b
unfolding grown seven_of
grown-seven key totals a b =
    same-table 0 7 (λ v. get_or (table 7 (λ w. get_or totals w 0)) v 0 + count_with key v a b) (λ v. get_or totals v 0 + count_with key v a b)
    (λ v i j. ap (λ x. x + count_with key v a b) (get_or-table 7 (λ w. get_or totals w 0) v (omega arith)))

-- ---- a run that passed its checks can be walked
pub begins : (row : List Rule) (k : Booking) → answered tt ≡ run_checks row k → Walking (begun k)
unfolding check_run
begins row k e =
    let spans = in_span k.from && in_span k.to in
    let ordered = leb (at k.from) (at k.to) && leb (at k.tally.end) (at k.from) in
    let a = require-answered (holds k.tally) 18 _ tt (sym e) in
    let b = require-answered spans 15 _ tt a.1 in
    let c = require-answered ordered 17 _ tt b.1 in
    let h = holding k.tally a.0 in
    let s = both (in_span k.from) (in_span k.to) b.0 in
    let x = spanned k.from s.0 in
    let y = spanned k.to s.1 in
    let o = both (leb (at k.from) (at k.to)) (leb (at k.tally.end) (at k.from)) c.0 in
    let p = leb-true (at k.from) (at k.to) o.0 in
    let q = leb-true (at k.tally.end) (at k.from) o.1 in
    record { low = x.start; left = p; high = y.stop; in_year = λ h. refl; seven = seven-length k.tally.totals; room = omega (arith, seven-sum k.tally.totals, h.spent, h.span.start, h.span.stop, p, q, y.stop) }

-- ---- the whole
module _ (row : List Rule) (k : Booking) (ok : check_row row ≡ answered tt) where
  pub run-refused : (n : ℕ) → refused n ≡ run_checks row k → refused n ≡ book row k.tally k.from k.to
  unfolding book
  run-refused n e = go (holds k.tally) refl e
    where
      go : (b : Bool) → holds k.tally ≡ b → refused n ≡ run_checks row k → refused n ≡ (check_row row >> (require (holds k.tally) 18 >> (check_run row k.tally.end k.from k.to >> answered (with_run row k.tally k.from k.to))))
      go true f g = let r = rw f at g in rw (ok, f, ← r)
      go false f g = let r = rw f at g in rw (ok, f) (ap Gone r)
        where
          Gone : Outcome (Unit {0}) → Outcome Tally
          Gone (refused m) = refused m
          Gone (answered a) = refused n

  pub run-booked : (totals : List ℕ) → answered tt ≡ run_checks row k → totals ≡ (walked row (begun k)).totals → answered (record { end = k.to; totals = totals }) ≡ book row k.tally k.from k.to
  unfolding book walked with_run
  run-booked totals e w =
      let a = require-answered (holds k.tally) 18 _ tt (sym e) in
      rw (ok, a.0, a.1) (ap (λ (l : List ℕ). answered (record { end = k.to; totals = l })) (w ∙ grown-seven (local_weekday row) k.tally.totals (at k.from) (at k.to)))

-- ---- an answer is what an outcome says, beside the tally as it was where that is a refusal
pub record Says (r : Answer) (t : Tally) (o : Outcome Tally) : Type 0 where
  pub answer : of_tally r ≡ o
  pub tally : r.tally ≡ or_else o t

says : (o : Outcome Tally) (t : Tally) → Known o → Says (answer_of o t) t o
says (refused n) t k = record { answer = ap refused k; tally = refl }
says (answered new) t k = record { answer = refl; tally = refl }

-- ---- the steps answer what an outcome says: test by test, and then the walk
closed-is : (row : List Rule) (k : Booking) → walked_in row k ≡ record { check = Ok tt; tally = with_run row k.tally k.from k.to }
unfolding walked closed with_run
closed-is row k = rw (grown-seven (local_weekday row) k.tally.totals (at k.from) (at k.to))

module _ (row : List Rule) (k : Booking) where
  abbrev ordered : Bool
  ordered = leb (at k.from) (at k.to) && leb (at k.tally.end) (at k.from)

  abbrev checked : Outcome Tally
  checked = require (holds k.tally) 18 >> (check_run row k.tally.end k.from k.to >> answered (with_run row k.tally k.from k.to))

  in_is : booked_in row k ≡ answer_of checked k.tally
  unfolding run_check check_run
  in_is = go (holds k.tally) refl (in_span k.from && in_span k.to) refl ordered refl (rule_in_force row (year_of (at k.from))) refl
    where
      go : (w : Bool) → holds k.tally ≡ w → (x : Bool) → (in_span k.from && in_span k.to) ≡ x → (y : Bool) → ordered ≡ y → (z : Option Rule) → rule_in_force row (year_of (at k.from)) ≡ z
          → booked_in row k ≡ answer_of checked k.tally
      go false e x f y g z h = rw e
      go true e false f y g z h = rw (e, f)
      go true e true f false g z h = rw (e, f, g)
      go true e true f true g None h = rw (e, f, g, h)
      go true e true f true g (Some r) h = rw (e, f, g, h, closed-is row k)

  pub on-is : booked_on row k ≡ answer_of (book row k.tally k.from k.to) k.tally
  unfolding book
  on-is = go (check_row row) refl
    where
      go : (o : Outcome (Unit {0})) → check_row row ≡ o → booked_on row k ≡ answer_of (check_row row >> checked) k.tally
      go (refused n) e = rw (check-is row 0, e)
      go (answered ok) e = rw (check-is row 0, e) in_is

pub book-is : (row : List Rule) (t : Tally) (a b : UtcTick) → Says (booked_on row (asked t a b)) t (book row t a b)
book-is row t a b = rw (on-is row (asked t a b)) (says (book row t a b) t (book-known row t a b))
