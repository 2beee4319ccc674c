-- Every month has 28 days or more, so it has each weekday at least four times: occurrences 1 to 4 exist in every month, and 5 is the last one.
use Rattle.std.proofs.Common.{◌≡◌, ℕ, zero, suc, ◌+◌, ◌-◌, ◌%◌, ◌<◌, ◌≤◌, Bool, true, false, cond, ◌&&◌, T, eqb, leb, List, [], ◌∷◌, length, refl, ap, arith, eqb-true, leb-true}
use lib.Ieee.Bits.{is_true}
use borrow.Author.Tests.{eqb-false}
use Rattle.std.specs.Prelude.{Option, Some, None, slice_get}
use Rattle.refusal.proofs.Tests.{both}
use Rattle.days.specs.Years.{year_start}
use Rattle.days.specs.Months.{days_in_month, days_of_months}
use Rattle.days.specs.Counting.{up_from, keep, among}
use Rattle.days.proofs.Finite.{all, all-at}
use Rattle.days.proofs.months.Lengths.{month-long}
use Rattle.zone.specs.declared.dates.SystemTime.{SystemTime}
use Rattle.zone.specs.Dates.{is_yearly, valid_date}
use Rattle.in_force.specs.Switches.{days_with, occurrence, switch_day}
use Rattle.in_force.specs.Steps.{Valid}
use Rattle.in_force.proofs.ValidDates.{valid}
use Rattle.in_force.proofs.switches.DayLaws.{day_has, same-weekdays, dated-day}

-- ---- four or five times
-- in a month of 28 + j days, whose first day has number r
abbrev often : ℕ → ℕ → ℕ → Bool
often r w j =
    let n : ℕ = length (among (day_has w r) 1 (28 + j + 1)) in
    leb 4 n && leb n 5

table : T (all (λ r. all (λ w. all (often r w) 4) 7) 7)
unfolding all keep up_from
table = tt

often-in : (b w len : ℕ) → w ≤ 6 → 28 ≤ len → len ≤ 31 → (4 ≤ length (among (day_has w b) 1 (len + 1))) × (length (among (day_has w b) 1 (len + 1)) ≤ 5)
often-in b w len hw hl hl31 =
    let t : T (often (b % 7) w (len - 28)) =
    all-at (often (b % 7) w) 4 (all-at (λ w. all (often (b % 7) w) 4) 7 (all-at (λ r. all (λ w. all (often r w) 4) 7) 7 table (b % 7) (omega arith)) w (omega arith)) (len - 28) (omega arith) in
    let e : 28 + (len - 28) ≡ len = omega arith in
    let q = both (leb 4 (length (among (day_has w (b % 7)) 1 (len + 1)))) _ (rw e at (is_true (often (b % 7) w (len - 28)) t)) in
    rw (same-weekdays b w len) (leb-true 4 _ q.0, leb-true _ 5 q.1)

-- THE LAW: a month has each weekday four or five times
pub four-or-five : (y m w : ℕ) → w ≤ 6 → (4 ≤ length (days_with y m w)) × (length (days_with y m w) ≤ 5)
unfolding days_with
four-or-five y m w hw =
    let h = month-long y m in
    often-in (year_start y + days_of_months y (m - 1)) w (days_in_month y m) hw h.0 h.1

-- ---- so a date has its day
abbrev pub present : Option ℕ → Bool
present None = false
present (Some n) = true

at_place : (l : List ℕ) (i : ℕ) → i < length l → present (slice_get l i) ≡ true
at_place [] i h = absurd (omega arith)
at_place (x ∷ l) zero h = refl
at_place (x ∷ l) (suc i) h = at_place l i (omega arith)

-- where there are four or more, each of 1 to 4 is there, and the last one
occurs : (k : ℕ) (days : List ℕ) → 1 ≤ k → k ≤ 5 → 4 ≤ length days → present (occurrence k days) ≡ true
occurs k days one five four = go (eqb k 5) refl
  where
    go : (c : Bool) → eqb k 5 ≡ c → present (slice_get days (cond c (length days - 1) (k - 1))) ≡ true
    go true e = at_place days (length days - 1) (omega arith)
    go false e = let n : (k ≡ 5) → ⊥ = eqb-false k 5 e in at_place days (k - 1) (omega arith)

pub valid-has-day : (y : ℕ) (d : SystemTime) → Valid d → present (switch_day y d) ≡ true
unfolding switch_day
valid-has-day y d v = go (is_yearly d) refl
  where
    go : (c : Bool) → is_yearly d ≡ c → present (switch_day y d) ≡ true
    go true e =
        let z = eqb-true d.year 0 e in
        rw e (occurs d.day (days_with y d.month d.weekday) v.day1 (v.yearly5 z) (four-or-five y d.month d.weekday (v.yearly6 z)).0)
    go false e = ap present (dated-day y d (eqb-false d.year 0 e))

-- THE LAW: a date that keeps its rule has a day in every year
pub has-day : (y : ℕ) (d : SystemTime) → valid_date d ≡ true → present (switch_day y d) ≡ true
has-day y d e = valid-has-day y d (valid d e)
