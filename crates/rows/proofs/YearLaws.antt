-- What is in force at a tick is what its UTC year says: every walk over a run rests on this law alone.
use Prim.Native.Nat.{ℕ}
use mathlib.Core.Path.{◌≡◌, refl}
use mathlib.Core.Bool.{true}
use mathlib.Core.List.{List}
use Rattle.std.specs.Prelude.{Option, Some, None}
use Rattle.refusal.specs.Outcome.{answered}
use Rattle.days.specs.Ticks.{year_of}
use Rattle.zone.specs.declared.rules.Rule.{Rule}
use Rattle.zone.specs.Biases.{in_bias_range}
use Rattle.in_force.specs.Shown.{Checked}
use Rattle.in_force.specs.Steps.{bias_at}
use Rattle.in_force.proofs.rule_bias.YearLaws.{bias-in, bias-ok, standard-ok, daylight-ok}
use Rattle.rows.specs.Row.{check_row}
use Rattle.rows.specs.Search.{rule_in_force, bias_under, bias_in_force}
use Rattle.rows.specs.Years.{year_found, year_in_force}
use Rattle.rows.proofs.SearchLaws.{checked-in-force}

pub year-bias : (row : List Rule) (u y : ℕ) → year_of u ≡ y → bias_in_force row u ≡ bias_at (year_in_force row y) u
unfolding bias_in_force year_in_force bias_at
year-bias row u y e = rw e (go (rule_in_force row y))
  where
    go : (o : Option Rule) → bias_under o u ≡ bias_at (year_found o y) u
    go None = refl
    go (Some r) = bias-in r y u e

-- ---- in a row that is accepted
module _ (row : List Rule) (ok : check_row row ≡ answered tt) (y : ℕ) where
  -- both biases are in range
  pub standard-range : in_bias_range (year_in_force row y).standard ≡ true
  unfolding year_in_force
  standard-range = go (rule_in_force row y) (checked-in-force row y ok)
    where
      go : (o : Option Rule) → Checked o → in_bias_range (year_found o y).standard ≡ true
      go None c = refl
      go (Some r) c = standard-ok y r c

  pub daylight-range : in_bias_range (year_in_force row y).daylight ≡ true
  unfolding year_in_force
  daylight-range = go (rule_in_force row y) (checked-in-force row y ok)
    where
      go : (o : Option Rule) → Checked o → in_bias_range (year_found o y).daylight ≡ true
      go None c = refl
      go (Some r) c = daylight-ok y r c

-- the bias in force at a tick is in range
pub in-range : (row : List Rule) (u : ℕ) → check_row row ≡ answered tt → in_bias_range (bias_in_force row u) ≡ true
unfolding bias_in_force
in-range row u ok = go (rule_in_force row (year_of u)) (checked-in-force row (year_of u) ok)
  where
    go : (o : Option Rule) → Checked o → in_bias_range (bias_under o u) ≡ true
    go None c = refl
    go (Some r) c = bias-ok r u c
