-- What the fields of a valid date keep to, and whether a date is set.
use Rattle.std.proofs.Common.{◌≡◌, ◌≤◌, Bool, true, false, cond, not, ◌&&◌, refl, ap, arith, eq-eqb, ne_eqb}
use borrow.Author.Tests.{eqb-false}
use Rattle.refusal.proofs.Tests.{both}
use Rattle.days.specs.Months.{days_in_month}
use Rattle.days.proofs.months.Lengths.{month-long}
use Rattle.calendar.specs.Ranges.{within}
use Rattle.calendar.proofs.ranges.Within.{within-is}
use Rattle.zone.specs.declared.dates.SystemTime.{SystemTime}
use Rattle.zone.specs.Dates.{is_set, is_yearly, valid_day, valid_seconds, valid_time, valid_date}
use Rattle.in_force.specs.Steps.{Valid}

pub is-set : (d : SystemTime) → (d.month ≡ 0 → ⊥) → is_set d ≡ true
is-set d h = ap not (ne_eqb d.month 0 h)

pub not_set : (d : SystemTime) → d.month ≡ 0 → is_set d ≡ false
not_set d h = ap not (eq-eqb d.month 0 h)

record ValidDay (d : SystemTime) : Type 0 where
  day1 : 1 ≤ d.day
  day31 : d.day ≤ 31
  yearly6 : d.year ≡ 0 → d.weekday ≤ 6
  yearly5 : d.year ≡ 0 → d.day ≤ 5

valid-day : (d : SystemTime) → valid_day d ≡ true → ValidDay d
valid-day d h = go (is_yearly d) refl h
  where
    go : (c : Bool) → is_yearly d ≡ c
        → cond c (within 0 6 d.weekday && within 1 5 d.day) (within 1601 30827 d.year && within 1 (days_in_month d.year d.month) d.day) ≡ true
        → ValidDay d
    go true e h =
        let w = both (within 0 6 d.weekday) (within 1 5 d.day) h in
        let k : d.day ≤ 5 = (within-is 1 5 d.day w.1).1 in
        record { day1 = (within-is 1 5 d.day w.1).0; day31 = omega arith; yearly6 = λ q. (within-is 0 6 d.weekday w.0).1; yearly5 = λ q. k }
    go false e h =
        let w = both (within 1601 30827 d.year) (within 1 (days_in_month d.year d.month) d.day) h in
        record {
          day1 = (within-is 1 _ d.day w.1).0;
          day31 = omega (arith, (within-is 1 (days_in_month d.year d.month) d.day w.1).1, (month-long d.year d.month).1);
          yearly6 = λ q. absurd (eqb-false d.year 0 e q);
          yearly5 = λ q. absurd (eqb-false d.year 0 e q);
        }

pub valid : (d : SystemTime) → valid_date d ≡ true → Valid d
unfolding valid_date
valid d v =
    let w = both _ (valid_time d) v in
    let z = both _ (valid_seconds d.second d.millisecond) w.1 in
    let s = both (within 0 59 d.second) (within 0 999 d.millisecond) z.1 in
    let m = both (within 0 23 d.hour) (within 0 59 d.minute) z.0 in
    let x = both (within 1 12 d.month) (valid_day d) w.0 in
    let r = valid-day d x.1 in
    record {
      month1 = (within-is 1 12 d.month x.0).0;
      month12 = (within-is 1 12 d.month x.0).1;
      day1 = r.day1;
      day31 = r.day31;
      yearly6 = r.yearly6;
      yearly5 = r.yearly5;
      hour23 = (within-is 0 23 d.hour m.0).1;
      minute59 = (within-is 0 59 d.minute m.1).1;
      second59 = (within-is 0 59 d.second s.0).1;
      millisecond999 = (within-is 0 999 d.millisecond s.1).1;
    }
