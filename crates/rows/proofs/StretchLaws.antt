-- Over a stretch of a row what is in force stays: every walk over a run rests on this law alone.
use Prim.Native.Nat.{ℕ, ◌+◌, ◌≤◌, ◌<◌}
use mathlib.Core.Path.{◌≡◌, refl, ◌∙◌, ap}
use mathlib.Core.List.{List}
use native.Mathlib.Omega.{arith}
use Rattle.std.specs.Prelude.{Option, Some, None}
use Rattle.days.specs.Ticks.{year_of, year_tick}
use Rattle.days.proofs.ticks.YearTicks.{ticks-rise, tick-30828}
use Rattle.zone.specs.declared.rules.Rule.{Rule}
use Rattle.zone.specs.Ticks.{window_start, window_end}
use Rattle.in_force.specs.declared.stretches.Stretch.{Stretch}
use Rattle.in_force.proofs.shown.WindowLaws.{in_window}
use Rattle.in_force.proofs.stretches.StretchLaws.{same-year, before-end, stretch}
use Rattle.rows.specs.Search.{rule_in_force, is_rule, has_rule, bias_under, bias_in_force, daylight_under, daylight_in_force}
use Rattle.rows.specs.Stretches.{stretch_under, stretch_at}

-- ---- under one rule, or none
record StaysUnder (o : Option Rule) (u : ℕ) (s : Stretch) : Type 0 where
  after : u < s.end
  up_to : s.end ≤ year_tick (year_of u + 1)
  bias : (t : ℕ) → u ≤ t → t < s.end → bias_under o t ≡ s.bias
  daylight : (t : ℕ) → u ≤ t → t < s.end → daylight_under o t ≡ s.daylight

stays-under : (o : Option Rule) (u : ℕ) → StaysUnder o u (stretch_under o u)
stays-under None u = record { after = before-end u (year_of u) refl; up_to = omega arith; bias = λ t h k. refl; daylight = λ t h k. refl }
stays-under (Some r) u =
    let s = stretch r (year_of u) u refl in
    record { after = s.after; up_to = s.up_to; bias = s.bias_stays; daylight = s.daylight_stays }

-- ---- in a row
pub record Stays (row : List Rule) (u : ℕ) (s : Stretch) : Type 0 where
  pub after : u < s.end
  pub inside : s.end ≤ window_end
  pub rule : (t : ℕ) → u ≤ t → t < s.end → has_rule row t ≡ has_rule row u
  pub bias : (t : ℕ) → u ≤ t → t < s.end → bias_in_force row t ≡ s.bias
  pub daylight : (t : ℕ) → u ≤ t → t < s.end → daylight_in_force row t ≡ s.daylight

pub stays : (row : List Rule) (u : ℕ) → window_start ≤ u → u < window_end → Stays row u (stretch_at row u)
unfolding stretch_at bias_in_force daylight_in_force
stays row u a b =
    record {
      after = s.after;
      inside = omega (arith, s.up_to, ticks-rise (year_of u + 1) 30828 (omega (arith, (in_window u a b).1)), tick-30828);
      rule = λ t h k. ap (λ (y : ℕ). is_rule (rule_in_force row y)) (year t h k);
      bias = λ t h k. ap (λ (y : ℕ). bias_under (rule_in_force row y) t) (year t h k) ∙ s.bias t h k;
      daylight = λ t h k. ap (λ (y : ℕ). daylight_under (rule_in_force row y) t) (year t h k) ∙ s.daylight t h k;
    }
  where
    s : StaysUnder (rule_in_force row (year_of u)) u (stretch_under (rule_in_force row (year_of u)) u)
    s = stays-under (rule_in_force row (year_of u)) u

    year : (t : ℕ) → u ≤ t → t < (stretch_under (rule_in_force row (year_of u)) u).end → year_of t ≡ year_of u
    year t h k = same-year (year_of u) u t refl h (omega (arith, s.up_to))
