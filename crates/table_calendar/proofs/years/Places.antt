-- The place of a year in its cycle: by one division, or one place later.
use Prim.Native.Nat.{ℕ, zero, suc, min, ◌+◌, ◌-◌, ◌*◌, ◌/◌, ◌≤◌, ◌<◌}
use mathlib.Core.Path.{◌≡◌, refl}
use mathlib.Core.Bool.{Bool, true, false}
use mathlib.Core.List.{List}
use native.Mathlib.Omega.{arith}
use lib.Dec.{ltb}
use lib.ListN.{get_or}
use borrow.Author.Tests.{ltb-true, ltb-false}
use Rattle.days.specs.Years.{days_of_years, day_of_year, year_day}
use Rattle.days.proofs.years.Blocks.{in400}
use Rattle.days.proofs.years.Closed.{closed, years-closed, year-long, years-rise}
use Rattle.days.proofs.years.YearOf.{year-found}
use Rattle.table_calendar.specs.Table.{days_before_year}
use Rattle.table_calendar.specs.Steps.{IsPlace}
use Rattle.table_calendar.proofs.table.Entries.{entry}

-- ---- the year at the place of a day, with the entry s of the table there
pub year-at : (d p s : ℕ) → IsPlace d p → s ≡ days_of_years p → day_of_year (1601 + p) (d - s) ≡ year_day d
unfolding days_of_years
year-at d p s h e = year-found d p (d - s) (omega (arith, h.from)) (omega (arith, h.from, h.before))

-- ---- k years of a cycle have at most 366 days each, and lack less than a year of that
at_most : (k : ℕ) → days_of_years k ≤ 366 * k
unfolding days_of_years
at_most zero = omega arith
at_most (suc k) = omega (arith, at_most k, year-long (1601 + k))

centuries : (k : ℕ) → k ≤ 400 → k / 100 ≤ 4
centuries k h = omega arith

fourths : (k : ℕ) → k ≤ 400 → k ≤ 362 + k / 4
fourths k h = omega arith

long-enough : (k x y z : ℕ) → y ≤ 4 → k ≤ 362 + x → 366 * k ≤ 366 + (365 * k + x - y + z)
long-enough k x y z h g = omega arith

at_least : (k : ℕ) → k ≤ 400 → 366 * k ≤ 366 + days_of_years k
unfolding closed
at_least k h = rw (years-closed k) (long-enough k (k / 4) (k / 100) (k / 400) (centuries k h) (fourths k h))

-- ---- as the code has it: the place by one division, or the one after it, which is never past the table
module _ (starts : List ℕ) (d l : ℕ) (r : (starts ≡ days_before_year) × (d < 146097)) (e : l ≡ min (d / 366 + 1) 399) where
  start_of : get_or starts l 0 ≡ days_of_years l
  start_of = rw r.0 (entry l (omega arith))

  ends : d < days_of_years (suc l)
  ends = go (ltb l 399) refl
    where
      go : (b : Bool) → ltb l 399 ≡ b → d < days_of_years (suc l)
      go true t = let g = ltb-true l 399 t in omega (arith, at_least (suc l) (omega arith))
      go false t = let f : suc l ≡ 400 = omega (arith, ltb-false l 399 t) in rw (f, in400) r.1

  pub late : get_or starts l 0 ≤ d → IsPlace d l
  late h = record { there = omega arith; from = omega (arith, start_of); before = ends }

  pub early : d < get_or starts l 0 → IsPlace d (d / 366)
  early h =
      record {
        there = omega arith;
        from = omega (arith, at_most (d / 366));
        before = omega (arith, start_of, years-rise l (suc (d / 366)) (omega arith));
      }
