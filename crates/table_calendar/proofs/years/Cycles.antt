-- After 400 years the calendar starts again: what the table says of a cycle's years, it says of every year.
use Prim.Native.Nat.{ℕ, zero, suc, ◌+◌, ◌-◌, ◌*◌, ◌/◌, ◌%◌, ◌≤◌, ◌<◌}
use mathlib.Core.Path.{◌≡◌, ap, sym, ◌∙◌}
use native.Mathlib.Nat.{zero-add, add-suc}
use native.Mathlib.Omega.{arith}
use lib.ListN.{get_or}
use Rattle.days.specs.declared.years.YearDay.{YearDay}
use Rattle.days.specs.Years.{leap, days_in_year, days_of_years, year_start, day_of_year, year_day}
use Rattle.days.proofs.years.Blocks.{in400}
use Rattle.days.proofs.years.Closed.{years-rise}
use Rattle.days.proofs.years.YearOf.{is-day, only-day, year-by}
use Rattle.table_calendar.specs.Table.{days_before_year}
use Rattle.table_calendar.proofs.table.Entries.{entry}

-- ---- the leap-year rule
by4 : (c y : ℕ) → (400 * c + y) % 4 ≡ y % 4
by4 c y = omega arith

by100 : (c y : ℕ) → (400 * c + y) % 100 ≡ y % 100
by100 c y = omega arith

by400 : (c y : ℕ) → (400 * c + y) % 400 ≡ y % 400
by400 c y = omega arith

same_length : (c y : ℕ) → days_in_year (400 * c + y) ≡ days_in_year y
unfolding days_in_year leap
same_length c y = rw (by4 c y, by100 c y, by400 c y)

-- ---- the days of years
next-cycle : (i : ℕ) → days_of_years (400 + i) ≡ 146097 + days_of_years i
unfolding days_of_years
next-cycle zero = in400
next-cycle (suc i) =
    let e : 1601 + (400 + i) ≡ 400 * 1 + (1601 + i) = omega arith in
    rw (add-suc 400 i, days_of_years, e, same_length 1 (1601 + i)) (omega (arith, next-cycle i))

cycles : (c i : ℕ) → days_of_years (400 * c + i) ≡ 146097 * c + days_of_years i
cycles zero i = ap days_of_years (zero-add i) ∙ sym (zero-add (days_of_years i))
cycles (suc c) i =
    let e : 400 * suc c + i ≡ 400 + (400 * c + i) = omega arith in
    rw (e, next-cycle (400 * c + i), cycles c i) (omega arith)

-- ---- every year: its start
-- THE LAW: a year starts as many whole cycles after 1601-01-01 as lie before it, and as many days after that as the table has at its place
pub every-year : (y : ℕ) → 1601 ≤ y → (y - 1601) / 400 * 146097 + get_or days_before_year ((y - 1601) % 400) 0 ≡ year_start y
every-year y h =
    let i : ℕ = (y - 1601) % 400 in
    let c : ℕ = (y - 1601) / 400 in
    let e : 400 * c + i ≡ y - 1601 = omega arith in
    omega (arith, entry i (omega arith), cycles c i, ap days_of_years e)

pub entry-small : (i : ℕ) → i < 400 → get_or days_before_year i 0 ≤ 146097
entry-small i h = omega (arith, entry i h, in400, years-rise i 400 (omega arith))

-- ---- every day: its year
later : (c d : ℕ) → day_of_year (400 * c + (year_day d).year) (year_day d).day ≡ year_day (146097 * c + d)
later c d =
    let x : YearDay = year_day d in
    let p = is-day d in
    let e : 400 * c + x.year - 1601 ≡ 400 * c + (x.year - 1601) = omega (arith, p.from) in
    only-day (146097 * c + d) _ _
    (record {
      from = omega (arith, p.from);
      at = rw (e, cycles c (x.year - 1601)) (omega (arith, p.at));
      within = rw (same_length c x.year) p.within;
    })
    (is-day (146097 * c + d))

-- as the code has it, with a name for what the table gave
module _ (n : ℕ) (x : YearDay) (e : x ≡ year_day (n % 146097)) where
  pub year-small : x.year ≤ 2000
  year-small = rw e (year-by (n % 146097) 2000 (omega (arith, in400)))

  pub year-is : day_of_year (400 * (n / 146097) + x.year) x.day ≡ year_day n
  year-is =
      let f : 146097 * (n / 146097) + n % 146097 ≡ n = omega arith in
      rw e (later (n / 146097) (n % 146097)) ∙ ap year_day f
