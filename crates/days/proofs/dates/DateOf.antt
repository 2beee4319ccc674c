-- The date of a day: the walk over months finds it, one division finds its month, and its number leads back to it. All 365 and 366 days are computed once.
use Prim.Native.Nat.{ℕ, zero, suc, ◌+◌, ◌-◌, ◌≤◌, ◌<◌}
use mathlib.Core.Path.{◌≡◌, refl, ap, ap₂, sym, subst, ◌∙◌}
use mathlib.Core.Bool.{Bool, true, false, cond, not, ◌&&◌, ◌||◌}
use native.Mathlib.Omega.{arith}
use lib.Dec.{T, ltb, leb, leb→le, ltb→lt, eqb, eqb→eq}
use borrow.Author.Tests.{lt-ltb}
use Rattle.days.specs.declared.dates.Date.{Date}
use Rattle.days.specs.declared.months.MonthDay.{MonthDay}
use Rattle.days.specs.declared.years.YearDay.{YearDay}
use Rattle.days.specs.Years.{leap, days_in_year, day_of_year, year_day}
use Rattle.days.specs.Months.{days_in_month, days_of_months}
use Rattle.days.specs.Dates.{date, day_number, date_from, date_in_year, date_of}
use Rattle.days.specs.Steps.{lacking, month_day}
use Rattle.days.proofs.Finite.{all, all-at, and_left, and_right}
use Rattle.days.proofs.years.Closed.{year-long}
use Rattle.days.proofs.years.YearOf.{IsDay, is-day, only-day}
use Rattle.days.proofs.months.Lengths.{len, lens, len_of, lens-of, len-long}

-- ---- the walk over months, of a year that is leap or not
unfoldable pub walk : Bool → ℕ → ℕ → ℕ → Date
walk l zero m d = date 0 m (d + 1)
walk l (suc left) m d = cond (ltb d (len l m)) (date 0 m (d + 1)) (walk l left (suc m) (d - len l m))

abbrev of_year : ℕ → Date → Date
of_year y x = date y x.month x.day

walk_of : (left y m d : ℕ) → date_from left y m d ≡ of_year y (walk (leap y) left m d)
unfolding date_from walk days_in_month len
walk_of zero y m d = refl
walk_of (suc left) y m d = go (ltb d (days_in_month y m)) refl (walk_of left y (suc m) (d - days_in_month y m))
  where
    go : (b : Bool) → ltb d (days_in_month y m) ≡ b → date_from left y (suc m) (d - days_in_month y m) ≡ of_year y (walk (leap y) left (suc m) (d - days_in_month y m))
        → date_from (suc left) y m d ≡ of_year y (walk (leap y) (suc left) m d)
    go true e h = rw (date_from, walk, e)
    go false e h = rw (date_from, walk, e) h

-- ---- the tests
abbrev same_date : Date → ℕ → ℕ → Bool
same_date x m d = eqb x.month m && eqb x.day d

right : Bool → ℕ → Bool
right l r =
    same_date (walk l 11 1 r) (month_day l r).month (month_day l r).day
    && (leb 1 (month_day l r).month
    && (leb (month_day l r).month 12
    && (leb 1 (month_day l r).day
    && (leb (month_day l r).day (len l (month_day l r).month)
    && eqb (lens l ((month_day l r).month - 1) + ((month_day l r).day - 1)) r))))

common : T (all (right false) 365)
unfolding all right month_day lacking lens len walk
common = tt

leaping : T (all (right true) 366)
unfolding all right month_day lacking lens len walk
leaping = tt

back : Bool → ℕ → ℕ → Bool
back l i j = not (ltb j (len l (suc i))) || (same_date (walk l 11 1 (lens l i + j)) (suc i) (suc j) && ltb (lens l i + j) (cond l 366 365))

there : T (all (λ i. all (back false i) 31) 12)
unfolding all back lens len walk
there = tt

there-leap : T (all (λ i. all (back true i) 31) 12)
unfolding all back lens len walk
there-leap = tt

-- what the first test says
pub record IsMonthDay (l : Bool) (r : ℕ) (p : MonthDay) : Type 0 where
  pub at : walk l 11 1 r ≡ date 0 p.month p.day
  pub month1 : 1 ≤ p.month
  pub month12 : p.month ≤ 12
  pub day1 : 1 ≤ p.day
  pub day_last : p.day ≤ len l p.month
  pub number : lens l (p.month - 1) + (p.day - 1) ≡ r

walk-year0 : (l : Bool) (left m d : ℕ) → (walk l left m d).year ≡ 0
unfolding walk
walk-year0 l zero m d = refl
walk-year0 l (suc left) m d = go (ltb d (len l m)) (walk-year0 l left (suc m) (d - len l m))
  where
    go : (b : Bool) → (walk l left (suc m) (d - len l m)).year ≡ 0 → (cond b (date 0 m (d + 1)) (walk l left (suc m) (d - len l m))).year ≡ 0
    go true h = refl
    go false h = h

same-date : (l : Bool) (r m d : ℕ) → T (same_date (walk l 11 1 r) m d) → walk l 11 1 r ≡ date 0 m d
same-date l r m d t =
    rebuilt (walk l 11 1 r) (walk-year0 l 11 1 r) (eqb→eq _ _ (and_left (eqb (walk l 11 1 r).month m) _ t)) (eqb→eq _ _ (and_right (eqb (walk l 11 1 r).month m) _ t))
  where
    rebuilt : (x : Date) → x.year ≡ 0 → x.month ≡ m → x.day ≡ d → x ≡ date 0 m d
    rebuilt x a b c = λ i. date (a i) (b i) (c i)

read : (l : Bool) (r : ℕ) → T (right l r) → IsMonthDay l r (month_day l r)
unfolding right
read l r t =
    let m : ℕ = (month_day l r).month in
    let d : ℕ = (month_day l r).day in
    let s : Bool = same_date (walk l 11 1 r) m d in
    let t2 = and_right s _ t in
    let t3 = and_right (leb 1 m) _ t2 in
    let t4 = and_right (leb m 12) _ t3 in
    let t5 = and_right (leb 1 d) _ t4 in
    record {
      at = same-date l r m d (and_left s _ t);
      month1 = leb→le _ _ (and_left (leb 1 m) _ t2);
      month12 = leb→le _ _ (and_left (leb m 12) _ t3);
      day1 = leb→le _ _ (and_left (leb 1 d) _ t4);
      day_last = leb→le _ _ (and_left (leb d (len l m)) _ t5);
      number = eqb→eq _ _ (and_right (leb d (len l m)) _ t5);
    }

month-right : (l : Bool) (r : ℕ) → r < cond l 366 365 → IsMonthDay l r (month_day l r)
month-right true r h = read true r (all-at (right true) 366 leaping r h)
month-right false r h = read false r (all-at (right false) 365 common r h)

-- ---- the date of a day of a year
year-len : (y : ℕ) → days_in_year y ≡ cond (leap y) 366 365
unfolding days_in_year
year-len y = refl

month-in : (x : YearDay) → x.day < days_in_year x.year → IsMonthDay (leap x.year) x.day (month_day (leap x.year) x.day)
month-in x h = month-right (leap x.year) x.day (rw (year-len x.year) at h)

abbrev pub of_month_day : ℕ → MonthDay → Date
of_month_day y p = date y p.month p.day

pub date-found : (x : YearDay) → x.day < days_in_year x.year → date_in_year x ≡ of_month_day x.year (month_day (leap x.year) x.day)
date-found x h = walk_of 11 x.year 1 x.day ∙ ap (of_year x.year) (month-in x h).at

-- ---- the date of a day
pub record DateIs (n : ℕ) (x : Date) : Type 0 where
  pub year1601 : 1601 ≤ x.year
  pub month1 : 1 ≤ x.month
  pub month12 : x.month ≤ 12
  pub day1 : 1 ≤ x.day
  pub day_last : x.day ≤ days_in_month x.year x.month
  pub number : day_number x.year x.month x.day ≡ n

-- it is a date, and its number is the day's
pub date-is : (n : ℕ) → DateIs n (date_of n)
date-is n =
    let x : YearDay = year_day n in
    let w : IsDay n x = is-day n in
    let p : MonthDay = month_day (leap x.year) x.day in
    let g : IsMonthDay (leap x.year) x.day p = month-in x w.within in
    subst (DateIs n) (sym (date-found x w.within))
    (record {
      year1601 = w.from;
      month1 = g.month1;
      month12 = g.month12;
      day1 = g.day1;
      day_last = omega (arith, g.day_last, len_of x.year p.month);
      number = omega (arith, g.number, lens-of x.year (p.month - 1), w.at);
    })

pub date-year : (n : ℕ) → (date_of n).year ≡ (year_day n).year
date-year n = ap (λ (d : Date). d.year) (date-found (year_day n) (is-day n).within)

-- ---- as the code has it, with a name for what each step gave
pub day-small : (x : YearDay) → x.day < days_in_year x.year → x.day ≤ 365
day-small x h = omega (arith, year-long x.year)

pub date-by : (x : YearDay) (l : Bool) (p : MonthDay) → x.day < days_in_year x.year → l ≡ leap x.year → p ≡ month_day l x.day → of_month_day x.year p ≡ date_in_year x
date-by x l p h el ep = ap (of_month_day x.year) (ep ∙ ap (λ (b : Bool). month_day b x.day) el) ∙ sym (date-found x h)

pub day-within : (n : ℕ) (x : YearDay) → x ≡ year_day n → x.day < days_in_year x.year
day-within n x e = rw e (is-day n).within

-- ---- the number of a date leads back to it
back_at : (l : Bool) (i j : ℕ) → i < 12 → j < len l (suc i) → T (back l i j) → (walk l 11 1 (lens l i + j) ≡ date 0 (suc i) (suc j)) × (lens l i + j < cond l 366 365)
unfolding back
back_at l i j hi hj t =
    let u = rw (lt-ltb j (len l (suc i)) hj) at t in (
      same-date l (lens l i + j) (suc i) (suc j) (and_left (same_date (walk l 11 1 (lens l i + j)) (suc i) (suc j)) _ u),
      ltb→lt _ _ (and_right (same_date (walk l 11 1 (lens l i + j)) (suc i) (suc j)) _ u),
    )

at-day : (l : Bool) (i j : ℕ) → i < 12 → j < len l (suc i) → T (back l i j)
at-day true i j hi hj = all-at (back true i) 31 (all-at (λ i. all (back true i) 31) 12 there-leap i hi) j (omega (arith, len-long true (suc i)))
at-day false i j hi hj = all-at (back false i) 31 (all-at (λ i. all (back false i) 31) 12 there i hi) j (omega (arith, len-long false (suc i)))

pub date_of-day_number : (y m d : ℕ) → 1601 ≤ y → 1 ≤ m → m ≤ 12 → 1 ≤ d → d ≤ days_in_month y m → date_of (day_number y m d) ≡ date y m d
date_of-day_number y m d hy hm hm12 hd hdl =
    let l : Bool = leap y in
    let em : suc (m - 1) ≡ m = omega arith in
    let ed : suc (d - 1) ≡ d = omega arith in
    let f : d - 1 < len l (suc (m - 1)) = rw em (omega (arith, len_of y m)) in
    let b = back_at l (m - 1) (d - 1) (omega arith) f (at-day l (m - 1) (d - 1) (omega arith) f) in
    let lo : days_of_months y (m - 1) ≡ lens l (m - 1) = lens-of y (m - 1) in
    let r : ℕ = days_of_months y (m - 1) + (d - 1) in
    let n : ℕ = day_number y m d in
    let small : r < days_in_year y = rw (year-len y, lo) b.1 in
    let e : year_day n ≡ day_of_year y r = only-day n (year_day n) (day_of_year y r) (is-day n) (record { from = hy; at = omega arith; within = small }) in
    ap date_in_year e ∙ walk_of 11 y 1 r ∙ ap (λ (k : ℕ). of_year y (walk l 11 1 (k + (d - 1)))) lo ∙ ap (of_year y) b.0 ∙ ap₂ (date y) em ed
