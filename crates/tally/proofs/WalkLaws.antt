-- A walk over the years of a run adds up to the run: over a stretch of one bias local ticks go on as UTC ticks do.
use Prim.Native.Nat.{ℕ, min, ◌+◌, ◌-◌, ◌≤◌, ◌<◌}
use mathlib.Core.Path.{◌≡◌, refl, sym, ap, ◌∙◌}
use mathlib.Core.Bool.{Bool, true, false, cond}
use mathlib.Core.List.{List}
use native.Mathlib.Omega.{arith}
use lib.IntN.{ℤ, pos, negsuc}
use lib.Dec.{ltb}
use borrow.Author.Tests.{ltb-true, ltb-false, leb-true, lt-ltb, le-ltb}
use Rattle.refusal.specs.Outcome.{answered}
use Rattle.days.specs.Ticks.{year_of, year_tick, weekday_of}
use Rattle.days.proofs.ticks.YearTicks.{year-bounds, year-is}
use Rattle.days.proofs.ticks.YearTicks.{next-year as longer}
use Rattle.days.proofs.years.Closed.{year-long}
use Rattle.totals.specs.Totals.{grown}
use Rattle.totals.proofs.GrownLaws.{length-grown, grown-none, grown-on, grown-along, sum-grown}
use Rattle.zone.specs.declared.rules.Rule.{Rule}
use Rattle.zone.specs.Biases.{in_bias_range}
use Rattle.zone.specs.Ticks.{window_start}
use Rattle.in_force.specs.declared.rule_bias.YearBias.{YearBias}
use Rattle.in_force.specs.Biases.{less_bias}
use Rattle.in_force.specs.RuleBias.{daylight_between}
use Rattle.in_force.specs.Stretches.{next_change}
use Rattle.in_force.specs.Steps.{bias_at}
use Rattle.in_force.proofs.stretches.StretchLaws.{same-year, before-end, Change, change}
use Rattle.rows.specs.Row.{check_row}
use Rattle.rows.specs.Years.{year_in_force}
use Rattle.rows.proofs.YearLaws.{year-bias}
use Rattle.tally.specs.declared.booking.Booking.{Booking}
use Rattle.tally.specs.declared.booking.Walk.{Walk}
use Rattle.tally.specs.Tallies.{at}
use Rattle.tally.specs.Booking.{local_weekday}
use Rattle.tally.specs.Steps.{Walking, seven_of, begun, weekday_in, stepped, stepped_in, end_year, walked}

-- ---- from a tick of the window on, local ticks with one bias
pub less-on : (u i : ℕ) (b : ℤ) → in_bias_range b ≡ true → window_start ≤ u → less_bias (u + i) b ≡ less_bias u b + i
less-on u i (pos n) e h = let g : n ≤ 1440 = leb-true n 1440 e in omega arith
less-on u i (negsuc n) e h = omega arith

-- a bias is at most a day
pub less-most : (u : ℕ) (b : ℤ) → in_bias_range b ≡ true → less_bias u b ≤ u + 864000000000
less-most u (pos n) e = omega arith
less-most u (negsuc n) e = let g : n < 1440 = ltb-true n 1440 e in omega arith

-- the weekday is one of seven
pub below : (k : YearBias) (u : ℕ) → weekday_in k u < 7
below k u = omega arith

-- ---- in a year
module _ (k : YearBias) (s : in_bias_range k.standard ≡ true) (d : in_bias_range k.daylight ≡ true) where
  pub in-range : (u : ℕ) → in_bias_range (bias_at k u) ≡ true
  unfolding bias_at
  in-range u = go (daylight_between k.daylight_start k.standard_start u)
    where
      go : (b : Bool) → in_bias_range (cond b k.daylight k.standard) ≡ true
      go true = d
      go false = s

  -- up to the next change as many local ticks, from the one that the first shows
  module _ (totals : List ℕ) (u to : ℕ) (low : window_start ≤ u) (on : u < to) where
    c : Change k u to (next_change k u to)
    c = change k u to on

    abbrev end : ℕ
    end = next_change k u to

    abbrev local : ℕ
    local = less_bias u (bias_at k u)

    same-weekday : (i : ℕ) → i < end - u → weekday_in k (u + i) ≡ weekday_of (local + i)
    same-weekday i l =
        ap weekday_of (ap (less_bias (u + i)) (c.bias_stays (u + i) (omega arith) (omega arith)) ∙ less-on u i (bias_at k u) (in-range u) low)

    stretch-is : grown 7 weekday_of totals local (local + (end - u)) ≡ grown 7 (weekday_in k) totals u end
    stretch-is =
        let e : u + (end - u) ≡ end = omega (arith, c.after) in
        sym (grown-along 7 (weekday_in k) weekday_of totals u local (end - u) same-weekday) ∙ ap (grown 7 (weekday_in k) totals u) e

    stretch-on : grown 7 (weekday_in k) (grown 7 weekday_of totals local (local + (end - u))) end to ≡ grown 7 (weekday_in k) totals u to
    stretch-on =
        ap (λ (l : List ℕ). grown 7 (weekday_in k) l end to) stretch-is
        ∙ grown-on 7 (weekday_in k) totals u end to (omega (arith, c.after)) c.up_to

    -- as the code has it
    pub turn_on : (first next : ℕ) (sums : List ℕ) → first ≡ local → next ≡ end → sums ≡ grown 7 weekday_of totals first (first + (next - u))
        → grown 7 (weekday_in k) sums next to ≡ grown 7 (weekday_in k) totals u to
    turn_on first next sums p q r = cc stretch-on

-- ---- a step goes on with the same totals at the end
module _ (row : List Rule) (ok : check_row row ≡ answered tt) (w : Walk) (k : Walking w) (on : w.at < w.to) where
  abbrev next : ℕ
  next = year_tick (w.year + 1)

  abbrev until : ℕ
  until = min next w.to

  before-next : w.at < next
  before-next = before-end w.at w.year (k.in_year on)

  in-year : (t : ℕ) → w.at ≤ t → t < next → year_of t ≡ w.year
  in-year t h g = same-year w.year w.at t (k.in_year on) h g

  from-1601 : 1601 ≤ w.year
  from-1601 = omega (arith, (year-bounds w.at).from, k.in_year on)

  -- the next year's first tick is of the next year
  of-next-year : year_of next ≡ w.year + 1
  of-next-year =
      year-is next (w.year + 1)
      (record { from = omega (arith, from-1601); low = omega arith; high = omega (arith, longer (w.year + 1) (omega (arith, from-1601)), (year-long (w.year + 1)).0) })

  same-weekdays : (i : ℕ) → i < until - w.at → local_weekday row (w.at + i) ≡ weekday_in (year_in_force row w.year) (w.at + i)
  unfolding local_weekday
  same-weekdays i l = ap (λ (b : ℤ). weekday_of (less_bias (w.at + i) b)) (year-bias row (w.at + i) w.year (in-year (w.at + i) (omega arith) (omega arith)))

  step-totals : grown 7 (weekday_in (year_in_force row w.year)) w.totals w.at until ≡ grown 7 (local_weekday row) w.totals w.at until
  step-totals =
      let e : w.at + (until - w.at) ≡ until = omega (arith, before-next) in
      ap (grown 7 (weekday_in (year_in_force row w.year)) w.totals w.at) (sym e)
      ∙ sym (grown-along 7 (local_weekday row) (weekday_in (year_in_force row w.year)) w.totals w.at w.at (until - w.at) same-weekdays)
      ∙ ap (grown 7 (local_weekday row) w.totals w.at) e

  end-year : end_year w ≡ cond (ltb until w.to) (year_of (w.to - 1) + 1) (w.year + 1)
  end-year = ap (λ b. cond b (year_of (w.to - 1) + 1) w.year) (lt-ltb w.at w.to on) ∙ go (ltb until w.to) refl
    where
      go : (b : Bool) → ltb until w.to ≡ b → year_of (w.to - 1) + 1 ≡ cond (ltb until w.to) (year_of (w.to - 1) + 1) (w.year + 1)
      go true e = rw e
      go false e =
          let g : w.to ≤ until = ltb-false until w.to e in
          rw e (ap (λ y. y + 1) (in-year (w.to - 1) (omega arith) (omega arith)))

  pub turned-is : walked row w ≡ walked row (stepped_in row w)
  unfolding walked stepped
  turned-is =
      rw (step-totals, grown-on 7 (local_weekday row) w.totals w.at until w.to (omega (arith, before-next)) (omega arith), ← end-year)

  pub keeps_on : Walking (stepped_in row w)
  unfolding stepped
  keeps_on =
      record {
        low = omega (arith, k.low, before-next);
        left = omega arith;
        high = k.high;
        in_year = λ h. ap year_of (ended h) ∙ of-next-year;
        seven = length-grown 7 (weekday_in (year_in_force row w.year)) w.totals w.at until;
        room = omega (arith, sum-grown 7 (weekday_in (year_in_force row w.year)) (below (year_in_force row w.year)) w.totals w.at until k.seven, k.room, before-next);
      }
    where
      ended : until < w.to → until ≡ next
      ended h = omega arith

  pub falls-on : (stepped_in row w).to - (stepped_in row w).at < w.to - w.at
  unfolding stepped
  falls-on = omega (arith, before-next)

pub stops_at : (row : List Rule) (w : Walk) → Walking w → w.to ≤ w.at → walked row w ≡ w
unfolding walked
stops_at row w k h =
    let e : w.at ≡ w.to = omega (arith, k.left) in
    rw (le-ltb w.at w.to h, ← e, grown-none 7 (local_weekday row) w.totals w.at k.seven)

-- as the code has it
pub stepped-is : (k : YearBias) (w : Walk) (end : ℕ) (totals : List ℕ) → end ≡ min (year_tick (w.year + 1)) w.to
    → totals ≡ grown 7 (weekday_in k) w.totals w.at end
    → ◌≡◌ {A = Walk} (record { at = end; to = w.to; year = w.year + 1; totals = totals }) (stepped k w)
unfolding stepped
stepped-is k w end totals a c = cc

-- ---- the start, as the code has it
pub begun-is : (k : Booking) (a b y : ℕ) (totals : List ℕ) → a ≡ at k.from → b ≡ at k.to → y ≡ year_of a → totals ≡ seven_of k.tally.totals
    → ◌≡◌ {A = Walk} (record { at = a; to = b; year = y; totals = totals }) (begun k)
begun-is k a b y totals p q r s = cc
