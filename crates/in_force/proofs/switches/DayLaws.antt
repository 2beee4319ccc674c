-- The day on which a yearly date falls, by weekday arithmetic: tested for each weekday of the month's first day, each weekday, each occurrence and each length of a month.
use Rattle.std.proofs.Common.{◌≡◌, ℕ, suc, ◌+◌, ◌-◌, ◌%◌, ◌<◌, ◌≤◌, Bool, true, false, T, eqb, sym, refl, ap, ◌∙◌, arith, eqb→eq, eq-eqb, ne_eqb, eqb-true}
use borrow.Author.Tests.{eqb-false}
use Rattle.std.specs.Prelude.{Option, Some, None}
use Rattle.refusal.specs.Outcome.{answered}
use Rattle.refusal.proofs.Tests.{both}
use Rattle.days.specs.Years.{year_start}
use Rattle.days.specs.Months.{days_in_month, days_of_months}
use Rattle.days.specs.Dates.{day_number, weekday}
use Rattle.days.specs.Counting.{up_from, keep, among}
use Rattle.days.proofs.Finite.{all, all-at}
use Rattle.days.proofs.Counting.{among_same}
use Rattle.days.proofs.months.Lengths.{month-long}
use Rattle.zone.specs.declared.dates.SystemTime.{SystemTime}
use Rattle.zone.specs.declared.rules.Rule.{Rule}
use Rattle.zone.specs.Dates.{is_set, is_yearly}
use Rattle.zone.specs.Rules.{check_dates}
use Rattle.in_force.specs.Switches.{days_with, occurrence, switch_day, tick_on_day, switch_tick, switches_in}
use Rattle.in_force.specs.Steps.{Valid, nth_day, day_on, switch_day_of, tick_on_date}
use Rattle.in_force.proofs.CheckedRules.{Dated, dated}

abbrev is_at : Option ℕ → ℕ → Bool
is_at None n = false
is_at (Some x) n = eqb x n

is-at : (o : Option ℕ) (n : ℕ) → T (is_at o n) → o ≡ Some n
is-at None n h = absurd h
is-at (Some x) n h = ap Some (eqb→eq x n h)

-- the day numbers of the month's days are r, r + 1 and so on
abbrev pub day_has : ℕ → ℕ → ℕ → Bool
day_has w r d = eqb (weekday (r + (d - 1))) w

-- in a month of 28 + j days the occurrence i + 1 falls on that day
falls_on : ℕ → ℕ → ℕ → ℕ → Bool
falls_on r w j i = is_at (occurrence (suc i) (among (day_has w r) 1 (28 + j + 1))) (nth_day (weekday r) w (suc i) (28 + j))

table : T (all (λ r. all (λ w. all (λ j. all (falls_on r w j) 5) 4) 7) 7)
unfolding all falls_on keep up_from nth_day
table = tt

falls_at : (r w j i : ℕ) → r < 7 → w < 7 → j < 4 → i < 5 → T (falls_on r w j i)
falls_at r w j i hr hw hj hi =
    all-at (falls_on r w j) 5
    (all-at (λ j. all (falls_on r w j) 5) 4
    (all-at (λ w. all (λ j. all (falls_on r w j) 5) 4) 7
    (all-at (λ r. all (λ w. all (λ j. all (falls_on r w j) 5) 4) 7) 7 table r hr) w hw) j hj) i hi

-- the weekdays of a month's days follow from that of the first
pub same-weekdays : (b w len : ℕ) → among (day_has w b) 1 (len + 1) ≡ among (day_has w (b % 7)) 1 (len + 1)
same-weekdays b w len =
    among_same (day_has w b) (day_has w (b % 7)) 1 (len + 1)
    (λ d x y. let e : (b + (d - 1) + 1) % 7 ≡ (b % 7 + (d - 1) + 1) % 7 = omega arith in ap (λ n. eqb n w) e)

module _ (b w k len : ℕ) (hw : w ≤ 6) (hk : 1 ≤ k) (hk5 : k ≤ 5) (hl : 28 ≤ len) (hl31 : len ≤ 31) where
  ek : suc (k - 1) ≡ k
  ek = omega arith

  el : 28 + (len - 28) ≡ len
  el = omega arith

  ew : (b % 7 + 1) % 7 ≡ (b + 1) % 7
  ew = omega arith

  found : occurrence k (among (day_has w b) 1 (len + 1)) ≡ Some (nth_day (weekday b) w k len)
  unfolding falls_on
  found =
      let q : occurrence (suc (k - 1)) (among (day_has w (b % 7)) 1 (28 + (len - 28) + 1)) ≡ Some (nth_day (weekday (b % 7)) w (suc (k - 1)) (28 + (len - 28))) =
      is-at _ _ (falls_at (b % 7) w (len - 28) (k - 1) (omega arith) (omega arith) (omega arith) (omega arith)) in
      rw (same-weekdays b w len) (rw (ek, el, ew) at q)

-- the day on which a yearly date falls
pub yearly-day : (y : ℕ) (d : SystemTime) → Valid d → d.year ≡ 0
    → switch_day y d ≡ Some (nth_day (weekday (day_number y d.month 1)) d.weekday d.day (days_in_month y d.month))
unfolding switch_day days_with
yearly-day y d v e =
    let h = month-long y d.month in
    let z : year_start y + days_of_months y (d.month - 1) + (1 - 1) ≡ year_start y + days_of_months y (d.month - 1) = omega arith in
    rw (eq-eqb _ _ e, z) (found (year_start y + days_of_months y (d.month - 1)) d.weekday d.day (days_in_month y d.month) (v.yearly6 e) v.day1 (v.yearly5 e) h.0 h.1)

-- the day on which a date with a year falls
pub dated-day : (y : ℕ) (d : SystemTime) → (d.year ≡ 0 → ⊥) → switch_day y d ≡ Some d.day
unfolding switch_day
dated-day y d e = rw (ne_eqb _ _ e)

-- as the code has it: f is the number of the month's first day
pub dated-found : (y f : ℕ) (d : SystemTime) → (d.year ≡ 0 → ⊥) → f ≡ year_start y + days_of_months y (d.month - 1) → f + (d.day - 1) ≡ switch_day_of y d
unfolding switch_day_of
dated-found y f d e ef = rw (dated-day y d e, ef)

pub yearly-found : (y f len n : ℕ) (d : SystemTime) → Valid d → d.year ≡ 0 → f ≡ year_start y + days_of_months y (d.month - 1) → len ≡ days_in_month y d.month → n ≡ nth_day ((f + 1) % 7) d.weekday d.day len
    → f + (n - 1) ≡ switch_day_of y d
unfolding switch_day_of
yearly-found y f len n d v e ef el en =
    let z : year_start y + days_of_months y (d.month - 1) + (1 - 1) ≡ f = omega (arith, ef) in
    let q : switch_day y d ≡ Some n = yearly-day y d v e ∙ ap Some (rw (z, ← el) (sym en)) in
    rw (q, ef)

-- the local tick of a date is that of its day
pub tick_is : (y : ℕ) (d : SystemTime) → Valid d → tick_on_date (switch_day_of y d) d ≡ switch_tick y d
unfolding switch_day_of switch_tick
tick_is y d v = go (is_yearly d) refl
  where
    go : (c : Bool) → is_yearly d ≡ c → tick_on_date (day_on y d (switch_day y d)) d ≡ tick_on_day y d (switch_day y d)
    go true e = rw (yearly-day y d v (eqb-true d.year 0 e))
    go false e = rw (dated-day y d (eqb-false d.year 0 e))

-- what a rule that switches in a year has
pub switching : (y : ℕ) (r : Rule) → check_dates r ≡ answered tt → switches_in y r ≡ true → Dated r
switching y r e h = dated r e (both (is_set r.standard_date) _ h).0
