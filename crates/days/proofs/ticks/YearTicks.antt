-- The year of a tick: the one that starts at or before it and ends after it.
use Prim.Native.Nat.{ℕ, suc, ◌+◌, ◌-◌, ◌*◌, ◌/◌, ◌≤◌, ◌<◌}
use mathlib.Core.Path.{◌≡◌, refl, ap}
use mathlib.Core.Bool.{Bool, true, false}
use native.Mathlib.Omega.{arith}
use lib.Dec.{ltb}
use borrow.Author.Tests.{ltb-true, ltb-false}
use Rattle.days.specs.Years.{days_in_year, year_start, day_of_year, year_day}
use Rattle.days.specs.Ticks.{day, year_of, day_in_year, year_tick}
use Rattle.days.proofs.years.Closed.{closed, years-closed, year-long, years-rise}
use Rattle.days.proofs.years.YearOf.{is-day, only-day, next_start}

pub record TickInYear (u y : ℕ) : Type 0 where
  pub from : 1601 ≤ y
  pub low : year_tick y ≤ u
  pub high : u < year_tick (suc y)

-- a year is as many ticks long as its days have
pub next-year : (y : ℕ) → 1601 ≤ y → year_tick (suc y) ≡ year_tick y + days_in_year y * day
next-year y h = omega (arith, next_start y h)

-- a tick lies in its year, and in no other
pub year-bounds : (u : ℕ) → TickInYear u (year_of u)
year-bounds u =
    let d = is-day (u / day) in
    record { from = d.from; low = omega (arith, d.at); high = omega (arith, d.at, d.within, next_start (year_of u) d.from) }

pub year-is : (u y : ℕ) → TickInYear u y → year_of u ≡ y
year-is u y t =
    let r : ℕ = u / day - year_start y in
    let low : year_start y ≤ u / day = omega (arith, t.low) in
    ap (λ x. x.year)
    (only-day (u / day) (year_day (u / day)) (day_of_year y r) (is-day (u / day))
    (record { from = t.from; at = omega arith; within = omega (arith, t.high, next_start y t.from) }))

pub ticks-rise : (y z : ℕ) → y ≤ z → year_tick y ≤ year_tick z
ticks-rise y z h = omega (arith, years-rise (y - 1601) (z - 1601) (omega arith))

-- ---- the ends of document 01's window of ticks
tick-closed : (y : ℕ) → year_tick y ≡ closed (y - 1601) * day
tick-closed y = ap (λ (d : ℕ). d * day) (years-closed (y - 1601))

pub tick-1602 : year_tick 1602 ≡ 315360000000000
unfolding closed
tick-1602 = tick-closed 1602

pub tick-30828 : year_tick 30828 ≡ 9223149888000000000
unfolding closed
tick-30828 = tick-closed 30828

pub tick-small : (y : ℕ) → y ≤ 30828 → year_tick y ≤ 9223149888000000000
tick-small y h = omega (arith, ticks-rise y 30828 h, tick-30828)

-- ---- the years of two ticks
pub year-order : (u v : ℕ) → u ≤ v → year_of u ≤ year_of v
year-order u v h = go (ltb (year_of v) (year_of u)) refl
  where
    go : (b : Bool) → ltb (year_of v) (year_of u) ≡ b → year_of u ≤ year_of v
    go true e =
        let g : year_of v < year_of u = ltb-true (year_of v) (year_of u) e in
        absurd (omega (arith, (year-bounds u).low, (year-bounds v).high, ticks-rise (suc (year_of v)) (year_of u) (omega arith)))
    go false e = ltb-false (year_of v) (year_of u) e

-- two ticks at most two days apart lie in one year or in two that touch
pub two-years : (u v : ℕ) → v ≤ u + 1728000000000 → year_of v ≤ suc (year_of u)
two-years u v h = go (ltb (suc (year_of u)) (year_of v)) refl
  where
    go : (b : Bool) → ltb (suc (year_of u)) (year_of v) ≡ b → year_of v ≤ suc (year_of u)
    go true e =
        let g : suc (year_of u) < year_of v = ltb-true (suc (year_of u)) (year_of v) e in
        let f = (year-bounds u).from in
        absurd (omega (arith, (year-bounds u).high, (year-bounds v).low, ticks-rise (suc (suc (year_of u))) (year_of v) (omega arith), next-year (suc (year_of u)) (omega arith), (year-long (suc (year_of u))).0))
    go false e = ltb-false (suc (year_of u)) (year_of v) e

-- a tick that is not in the last two days of its year, and one at most two days after it, lie in one year
pub same-year : (u v : ℕ) → day_in_year u ≤ 362 → u ≤ v → v ≤ u + 1728000000000 → year_of v ≡ year_of u
same-year u v h low high =
    let d = is-day (u / day) in
    year-is v (year_of u)
    (record { from = d.from; low = omega (arith, (year-bounds u).low); high = omega (arith, d.at, next_start (year_of u) d.from, (year-long (year_of u)).0) })
