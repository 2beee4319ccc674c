-- The tests of a rule's dates and biases, joined, and the chain of them.
use Prim.Native.Nat.{ℕ}
use mathlib.Core.Path.{◌≡◌, refl}
use mathlib.Core.Bool.{Bool, true, false, cond, not, ◌&&◌, true≢false, false≢true}
use lib.Dec.{eqb}
use borrow.Author.Tests.{eqb-true}
use Rattle.std.specs.Prelude.{Option}
use Rattle.refusal.specs.Outcome.{refused, answered, require, ◌>>◌}
use Rattle.refusal.proofs.Tests.{both}
use Rattle.zone.specs.declared.rules.Rule.{Rule}
use Rattle.zone.specs.declared.dates.SystemTime.{SystemTime}
use Rattle.zone.specs.Dates.{is_set, is_yearly, valid_date, yearly_date, date_ok}
use Rattle.zone.specs.Rules.{dates_match, dates_sound, biases_ok, check_dates, sound_rule, fault_of, year_fits, check_rule, dates_usual, sound_usual, usual_rule}

-- what a branch on two joined tests says of what they stand for
pub joined : {a b s t u : Bool} → a ≡ s → b ≡ t → (a && b) ≡ u → (s && t) ≡ u
joined e f h = rw (← e, ← f) h

pub sound-passes : (r : Rule) → sound_rule r ≡ true → check_dates r ≡ answered tt
unfolding check_dates
sound-passes r h =
    let s = r.standard_date in
    let d = r.daylight_date in
    let m = both (dates_sound s d) (biases_ok r) h in
    let n = both (date_ok s && date_ok d) (dates_match s d) m.0 in
    let o = both (date_ok s) (date_ok d) n.0 in
    rw (o.0, o.1, n.1, m.1)

pub unsound-refused : (r : Rule) → sound_rule r ≡ false → check_dates r ≡ refused (fault_of r.standard_date r.daylight_date)
unfolding check_dates
unsound-refused r h = go (date_ok r.standard_date) (date_ok r.daylight_date) (dates_match r.standard_date r.daylight_date) (biases_ok r) h
  where
    go : (s d m b : Bool) → (s && d && m && b) ≡ false → (require s 10 >> (require d 10 >> (require m 11 >> require b 9))) ≡ refused (cond s (cond d (cond m 9 11) 10) 10)
    go false d m b e = refl
    go true false m b e = refl
    go true true false b e = refl
    go true true true false e = refl
    go true true true true e = absurd (true≢false e)

-- ---- a usual rule passes
yearly-valid : (d : SystemTime) → yearly_date d ≡ true → valid_date d ≡ true
unfolding valid_date
yearly-valid d h =
    let (y, v) = both (is_yearly d) _ h in
    rw y v

yearly-set : (d : SystemTime) → yearly_date d ≡ true → is_set d ≡ true
yearly-set d h = go (eqb d.month 0) refl
  where
    go : (b : Bool) → eqb d.month 0 ≡ b → not (eqb d.month 0) ≡ true
    go false e = rw e
    go true e = absurd (false≢true (rw (eqb-true d.month 0 e) at (both (is_yearly d) _ h).1))

usual-sound : (s d : SystemTime) → dates_usual s d ≡ true → dates_sound s d ≡ true
usual-sound s d h = go (is_set s) refl
  where
    go : (b : Bool) → is_set s ≡ b → dates_sound s d ≡ true
    go true e =
        let (f, g) = both (yearly_date s) (yearly_date d) (rw e at h) in
        let y = eqb-true s.year 0 (both (is_yearly s) _ f).0 in
        let z = eqb-true d.year 0 (both (is_yearly d) _ g).0 in
        rw (e, yearly-set d g, yearly-valid s f, yearly-valid d g, y, z)
    go false e = rw (e, rw e at h)

pub usual-dates-pass : (r : Rule) → sound_usual r ≡ true → check_dates r ≡ answered tt
usual-dates-pass r h =
    let (d, b) = both (dates_usual r.standard_date r.daylight_date) _ h in
    sound-passes r (rw (usual-sound r.standard_date r.daylight_date d, b))

pub usual-passes : (before : Option ℕ) (r : Rule) → usual_rule before r ≡ true → check_rule before r ≡ answered tt
unfolding check_rule
usual-passes before r h =
    let (y, k) = both (year_fits before r.year) _ h in
    rw (y, usual-dates-pass r k)
