-- A rule that is made normal stays sound, stays within its types, and is normal.
use Prim.Native.Nat.{ℕ, ◌<◌}
use mathlib.Core.Path.{◌≡◌, refl, sym, ap, ◌∙◌}
use mathlib.Core.Bool.{Bool, true, false, cond, not, ◌&&◌}
use lib.Dec.{leb, eqb, lit<}
use mir.Syntax.{w32}
use mir.Val.{SFits}
use borrow.Author.Tests.{eqb-true}
use Rattle.std.specs.Prelude.{None}
use Rattle.refusal.specs.Outcome.{answered}
use Rattle.refusal.proofs.OutcomeLaws.{require-answered, last-require}
use Rattle.zone.specs.declared.dates.SystemTime.{SystemTime}
use Rattle.zone.specs.declared.rules.Rule.{Rule}
use Rattle.zone.specs.Dates.{valid_date, date_ok, unset, NormalDate, with_weekday, normal_date}
use Rattle.zone.specs.Rules.{dates_match, biases_ok, check_dates, check_rule, NormalRule, normal_rule, as_of}

-- what a value of the types is known to be
pub record DateFits (t : SystemTime) : Type 0 where
  pub year : t.year < 65536
  pub month : t.month < 65536
  pub weekday : t.weekday < 65536
  pub day : t.day < 65536
  pub hour : t.hour < 65536
  pub minute : t.minute < 65536
  pub second : t.second < 65536
  pub millisecond : t.millisecond < 65536

pub record RuleFits (r : Rule) : Type 0 where
  pub bias : SFits w32 r.bias
  pub standard-bias : SFits w32 r.standard_bias
  pub daylight-bias : SFits w32 r.daylight_bias
  pub standard : DateFits r.standard_date
  pub daylight : DateFits r.daylight_date

-- ---- dates
module _ (t : SystemTime) where
  abbrev settled : Bool → Bool → SystemTime
  settled m y =
      cond (not m) (cond y t (with_weekday t 0)) unset

  kept : (m y : Bool) → eqb t.month 0 ≡ m → eqb t.year 0 ≡ y → normal_date t ≡ settled m y
  unfolding normal_date
  kept m y em ey = rw (em, ey)

  month-kept : (normal_date t).month ≡ t.month
  month-kept = go (eqb t.month 0) (eqb t.year 0) refl refl
    where
      go : (m y : Bool) → eqb t.month 0 ≡ m → eqb t.year 0 ≡ y → (normal_date t).month ≡ t.month
      go true y em ey = ap (λ (u : SystemTime). u.month) (kept true y em ey) ∙ sym (eqb-true t.month 0 em)
      go false true em ey = ap (λ (u : SystemTime). u.month) (kept false true em ey)
      go false false em ey = ap (λ (u : SystemTime). u.month) (kept false false em ey)

  year-kept : eqb t.month 0 ≡ false → (normal_date t).year ≡ t.year
  year-kept em = go (eqb t.year 0) refl
    where
      go : (y : Bool) → eqb t.year 0 ≡ y → (normal_date t).year ≡ t.year
      go true ey = ap (λ (u : SystemTime). u.year) (kept false true em ey)
      go false ey = ap (λ (u : SystemTime). u.year) (kept false false em ey)

  date-kept : date_ok t ≡ true → date_ok (normal_date t) ≡ true
  unfolding valid_date
  date-kept h = go (eqb t.month 0) (eqb t.year 0) refl refl
    where
      go : (m y : Bool) → eqb t.month 0 ≡ m → eqb t.year 0 ≡ y → date_ok (normal_date t) ≡ true
      go true y em ey = ap date_ok (kept true y em ey)
      go false true em ey = ap date_ok (kept false true em ey) ∙ h
      go false false em ey = ap date_ok (kept false false em ey) ∙ rw ey (rw ey at h)

  twice : normal_date (normal_date t) ≡ normal_date t
  unfolding normal_date
  twice = go (eqb t.month 0) (eqb t.year 0) refl refl
    where
      go : (m y : Bool) → eqb t.month 0 ≡ m → eqb t.year 0 ≡ y → normal_date (normal_date t) ≡ normal_date t
      go true y em ey = rw (kept true y em ey)
      go false true em ey = rw (kept false true em ey) (kept false true em ey)
      go false false em ey = rw (kept false false em ey) (simp (em, ey))

  fits_kept : DateFits t → DateFits (normal_date t)
  fits_kept h = go (eqb t.month 0) (eqb t.year 0) refl refl
    where
      go : (m y : Bool) → eqb t.month 0 ≡ m → eqb t.year 0 ≡ y → DateFits (normal_date t)
      go true y em ey = rw (kept true y em ey) (record { year = lit< tt; month = lit< tt; weekday = lit< tt; day = lit< tt; hour = lit< tt; minute = lit< tt; second = lit< tt; millisecond = lit< tt })
      go false true em ey = rw (kept false true em ey) h
      go false false em ey = rw (kept false false em ey) (record { year = h.year; month = h.month; weekday = lit< tt; day = h.day; hour = h.hour; minute = h.minute; second = h.second; millisecond = h.millisecond })

  -- to be made normal changes nothing exactly where the date is normal
  pub date-normal : NormalDate t → normal_date t ≡ t
  date-normal n = go (eqb t.month 0) (eqb t.year 0) refl refl
    where
      go : (m y : Bool) → eqb t.month 0 ≡ m → eqb t.year 0 ≡ y → normal_date t ≡ t
      go true y em ey = kept true y em ey ∙ sym (n.not_set (ap not em))
      go false true em ey = kept false true em ey
      go false false em ey = kept false false em ey ∙ ap (with_weekday t) (sym (n.with_year (ap not em) ey))

  pub normal-date : normal_date t ≡ t → NormalDate t
  normal-date e =
      record {
        not_set = λ f. sym e ∙ kept true _ (not_is f) refl;
        with_year = λ f g. ap (λ (u : SystemTime). u.weekday) (sym e ∙ kept false false (not_is f) g);
      }
    where
      not_is : {b c : Bool} → not b ≡ c → b ≡ not c
      not_is {b = true} f = ap not f
      not_is {b = false} f = ap not f

-- ---- rules
match-kept : (r : Rule) → dates_match r.standard_date r.daylight_date ≡ true → dates_match (normal_rule r).standard_date (normal_rule r).daylight_date ≡ true
unfolding normal_rule
match-kept r h = rw (month-kept r.standard_date, month-kept r.daylight_date) (go (eqb r.standard_date.month 0) (eqb r.daylight_date.month 0) refl refl)
  where
    go : (m n : Bool) → eqb r.standard_date.month 0 ≡ m → eqb r.daylight_date.month 0 ≡ n
        → cond (not (eqb r.standard_date.month 0)) (not (eqb r.daylight_date.month 0) && eqb (normal_date r.standard_date).year (normal_date r.daylight_date).year) (not (not (eqb r.daylight_date.month 0))) ≡ true
    go true n em en = simp em (simp em at h)
    go false true em en = simp (em, en) (simp (em, en) at h)
    go false false em en = rw (em, en, year-kept r.standard_date em, year-kept r.daylight_date en) (simp (em, en) at h)

biases-kept : (r : Rule) (y : ℕ) (mark : Bool) → biases_ok r ≡ true → biases_ok (as_of y mark (normal_rule r)) ≡ true
unfolding biases_ok normal_rule
biases-kept r y mark h = rw (month-kept r.standard_date) h

pub check-kept : (r : Rule) (y : ℕ) (mark : Bool) → check_dates r ≡ answered tt → check_dates (as_of y mark (normal_rule r)) ≡ answered tt
unfolding check_dates normal_rule
check-kept r y mark h =
    let b = require-answered (date_ok r.standard_date) 10 _ tt h in
    let c = require-answered (date_ok r.daylight_date) 10 _ tt b.1 in
    let d = require-answered (dates_match r.standard_date r.daylight_date) 11 _ tt c.1 in
    let e = last-require (biases_ok r) 9 d.1 in
    rw (
      date-kept r.standard_date b.0,
      date-kept r.daylight_date c.0,
      match-kept r d.0,
      biases-kept r y mark e,
    )

pub fits-normal : (r : Rule) → RuleFits r → RuleFits (normal_rule r)
unfolding normal_rule
fits-normal r h =
    record {
      bias = h.bias;
      standard-bias = h.standard-bias;
      daylight-bias = h.daylight-bias;
      standard = fits_kept r.standard_date h.standard;
      daylight = fits_kept r.daylight_date h.daylight;
    }

pub normal-twice : (r : Rule) (y : ℕ) (mark : Bool) → normal_rule (as_of y mark (normal_rule r)) ≡ as_of y mark (normal_rule r)
unfolding normal_rule
normal-twice r y mark = rw (twice r.standard_date, twice r.daylight_date)

pub dates-of-rule : (r : Rule) → check_rule None r ≡ answered tt → check_dates r ≡ answered tt
unfolding check_rule
dates-of-rule r e = (require-answered (leb r.year 30827 && true) 8 (check_dates r) tt e).1

pub rule-normal : (r : Rule) → NormalRule r → normal_rule r ≡ r
unfolding normal_rule
rule-normal r n = rw (date-normal r.standard_date n.standard, date-normal r.daylight_date n.daylight)
