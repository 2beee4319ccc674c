-- Well-formed fields, by one test on unsigned numbers.
use Prim.Native.Nat.{ℕ, ◌+◌, ◌*◌, ◌≤◌, ◌<◌}
use mathlib.Core.Path.{◌≡◌, refl, sym, ap, ◌∙◌}
use mathlib.Core.Bool.{Bool, true, false, ◌&&◌, ◌||◌}
use native.Mathlib.Omega.{arith}
use lib.IntN.{ℤ, pos, negsuc}
use lib.Dec.{leb, eqb, lit<}
use borrow.Author.Tests.{lt-leb}
use Rattle.refusal.specs.Outcome.{Outcome, refused, answered, require, ◌>>=◌, ◌>>◌}
use Rattle.refusal.proofs.Tests.{and-false, both}
use Rattle.days.specs.Months.{days_in_month}
use Rattle.days.specs.Dates.{day_number}
use Rattle.days.specs.Ticks.{day, millisecond}
use Rattle.days.proofs.months.Lengths.{month-long}
use Rattle.calendar.specs.declared.fields.TimeFields.{TimeFields}
use Rattle.calendar.specs.declared.fields.Parts.{Parts}
use Rattle.calendar.specs.Ranges.{within}
use Rattle.calendar.specs.Revisions.{revision12, check_revision}
use Rattle.calendar.specs.Fields.{in_range, tick_of, fields_to_time}
use Rattle.calendar.specs.Steps.{part_of, parts_of, is_second, is_formed, milliseconds_of, as_time, time_of}
use Rattle.calendar.proofs.ranges.Within.{within-is}

-- ---- the chain of tests is one test
in-range : {B : Type 0} (lo hi : ℕ) (z : ℤ) (k : ℕ → Outcome B) → hi < 65535
    → (in_range lo hi z >>= k) ≡ (require (within lo hi (part_of z)) 14 >> k (part_of z))
in-range lo hi (pos n) k h = go (within lo hi n)
  where
    go : (b : Bool) → ((require b 14 >> answered n) >>= k) ≡ (require b 14 >> k n)
    go true = refl
    go false = refl
in-range lo hi (negsuc n) k h = rw (lt-leb 65535 hi h, and-false (leb lo 65535))

joined : {B : Type 0} (a b : Bool) (q : Outcome B) → (require a 14 >> (require b 14 >> q)) ≡ (require (a && b) 14 >> q)
joined true b q = refl
joined false b q = refl

pub one-test : (ρ : ℕ) (f : TimeFields) → fields_to_time ρ f ≡ (check_revision ρ >> (require (is_formed ρ (parts_of f)) 14 >> time_of (parts_of f)))
unfolding fields_to_time is_formed parts_of
one-test ρ f =
    let p : Parts = parts_of f in
    let wy = within 1601 32767 p.year in
    let wm = within 1 12 p.month in
    let wd = within 1 (days_in_month p.year p.month) p.day in
    let wh = within 0 23 p.hour in
    let wi = within 0 59 p.minute in
    let wk = within 0 999 p.milliseconds in
    let ws = within 0 60 p.second in
    let wl = leb p.second 59 || (eqb ρ revision12 && eqb p.hour 23 && eqb p.minute 59 && eqb p.day (days_in_month p.year p.month)) in
    let last : days_in_month p.year p.month < 65535 = omega (arith, (month-long p.year p.month).1) in
    rw (
      in-range 1601 32767 f.year _ (lit< tt),
      in-range 1 12 f.month _ (lit< tt),
      in-range 1 (days_in_month p.year p.month) f.day _ last,
      in-range 0 23 f.hour _ (lit< tt),
      in-range 0 59 f.minute _ (lit< tt),
      in-range 0 999 f.milliseconds _ (lit< tt),
      in-range 0 60 f.second _ (lit< tt),
      joined ws wl _,
      joined wy wm _,
      joined (wy && wm) wd _,
      joined (wy && wm && wd) wh _,
      joined (wy && wm && wd && wh) wi _,
      joined (wy && wm && wd && wh && wi) wk _,
      joined (wy && wm && wd && wh && wi && wk) (ws && wl) _,
    )

-- ---- what the test says
pub record Formed (p : Parts) : Type 0 where
  pub year : (1601 ≤ p.year) × (p.year ≤ 32767)
  pub month : (1 ≤ p.month) × (p.month ≤ 12)
  pub day : (1 ≤ p.day) × (p.day ≤ 31)
  pub hour : p.hour ≤ 23
  pub minute : p.minute ≤ 59
  pub second : p.second ≤ 60
  pub milliseconds : p.milliseconds ≤ 999

pub formed : (ρ : ℕ) (p : Parts) → is_formed ρ p ≡ true → Formed p
unfolding is_formed
formed ρ p e =
    let wy = within 1601 32767 p.year in
    let wm = within 1 12 p.month in
    let wd = within 1 (days_in_month p.year p.month) p.day in
    let wh = within 0 23 p.hour in
    let wi = within 0 59 p.minute in
    let wk = within 0 999 p.milliseconds in
    let ws = within 0 60 p.second in
    let t7 = both (wy && wm && wd && wh && wi && wk) (is_second ρ p) e in
    let t6 = both (wy && wm && wd && wh && wi) wk t7.0 in
    let t5 = both (wy && wm && wd && wh) wi t6.0 in
    let t4 = both (wy && wm && wd) wh t5.0 in
    let t3 = both (wy && wm) wd t4.0 in
    let t2 = both wy wm t3.0 in
    let d = within-is 1 (days_in_month p.year p.month) p.day t3.1 in
    record {
      year = within-is 1601 32767 p.year t2.0;
      month = within-is 1 12 p.month t2.1;
      day = (d.0, omega (arith, d.1, (month-long p.year p.month).1));
      hour = (within-is 0 23 p.hour t4.1).1;
      minute = (within-is 0 59 p.minute t5.1).1;
      second = (within-is 0 60 p.second (both ws _ t7.1).0).1;
      milliseconds = (within-is 0 999 p.milliseconds t6.1).1;
    }

-- ---- as the code has it
module _ (ρ : ℕ) (f : TimeFields) where
  pub unknown-revision : (n : ℕ) → refused n ≡ check_revision ρ → refused n ≡ fields_to_time ρ f
  unknown-revision n k = sym (one-test ρ f ∙ rw (← k))

  module _ (p : Parts) (known : answered tt ≡ check_revision ρ) (parts : p ≡ parts_of f) where
    pub ill-formed : is_formed ρ p ≡ false → refused 14 ≡ fields_to_time ρ f
    ill-formed h = sym (one-test ρ f ∙ rw (← known, ← parts, h))

    pub well-formed : is_formed ρ p ≡ true → time_of p ≡ fields_to_time ρ f
    well-formed h = sym (one-test ρ f ∙ rw (← known, ← parts, h))

pub time-is : (p : Parts) (d t : ℕ) → d ≡ day_number p.year p.month p.day → t ≡ d * day + milliseconds_of p.hour p.minute p.second p.milliseconds * millisecond
    → as_time t ≡ time_of p
time-is p d t ed et =
    let s : t ≡ tick_of p.year p.month p.day p.hour p.minute p.second p.milliseconds = omega arith in
    ap as_time s
