-- A rule's year as its two starts and two biases say what the rule puts in force at the year's ticks.
use Rattle.std.proofs.Common.{◌≡◌, ℕ, Bool, true, false, cond, ◌&&◌, ℤ, refl, ap, ◌∙◌}
use Rattle.refusal.specs.Outcome.{answered}
use Rattle.refusal.proofs.Tests.{both}
use Rattle.days.specs.Ticks.{year_of}
use Rattle.zone.specs.declared.rules.Rule.{Rule}
use Rattle.in_force.specs.declared.rule_bias.YearBias.{YearBias}
use Rattle.zone.specs.Dates.{is_set}
use Rattle.zone.specs.Biases.{in_bias_range}
use Rattle.zone.specs.Rules.{standard_sum, daylight_sum, check_dates}
use Rattle.in_force.specs.Switches.{switches_in, daylight_start, standard_start}
use Rattle.in_force.specs.RuleBias.{daylight_between, is_daylight, bias_of}
use Rattle.in_force.specs.Steps.{one_bias, year_bias, bias_at}
use Rattle.in_force.proofs.CheckedRules.{dated, undated}
use Rattle.in_force.proofs.switches.DayLaws.{switching}

-- ---- as the code has it
pub no-dates : (y : ℕ) (r : Rule) (b : ℤ) → is_set r.standard_date ≡ false → b ≡ r.bias → one_bias b ≡ year_bias y r
unfolding year_bias
no-dates y r b h e = rw (h, e)

pub other-year : (y : ℕ) (r : Rule) (b : ℤ) → is_set r.standard_date ≡ true → switches_in y r ≡ false → b ≡ standard_sum r → one_bias b ≡ year_bias y r
unfolding year_bias
other-year y r b h n e = rw (n, h, e)

pub switch-year : (y : ℕ) (r : Rule) (k : YearBias) → switches_in y r ≡ true → k.daylight_start ≡ daylight_start y r → k.standard_start ≡ standard_start y r
    → k.standard ≡ standard_sum r → k.daylight ≡ daylight_sum r → k ≡ year_bias y r
unfolding year_bias
switch-year y r k h d s p q = rw (h, ← d, ← s, ← p, ← q)

-- ---- what it says
pub daylight-in : (r : Rule) (y u : ℕ) → year_of u ≡ y → is_daylight r u ≡ daylight_between (year_bias y r).daylight_start (year_bias y r).standard_start u
unfolding is_daylight year_bias
daylight-in r y u q = rw q (go (switches_in y r) refl)
  where
    go : (c : Bool) → switches_in y r ≡ c
        → (switches_in y r && daylight_between (daylight_start y r) (standard_start y r) u) ≡ daylight_between (year_bias y r).daylight_start (year_bias y r).standard_start u
    go true h = rw h
    go false h = rw h

pub bias-in : (r : Rule) (y u : ℕ) → year_of u ≡ y → bias_of r u ≡ bias_at (year_bias y r) u
unfolding bias_of bias_at year_bias
bias-in r y u q =
    ap (λ b. cond (is_set r.standard_date) (cond b (daylight_sum r) (standard_sum r)) r.bias) (daylight-in r y u q)
    ∙ go (switches_in y r) refl (is_set r.standard_date) refl
  where
    go : (c : Bool) → switches_in y r ≡ c → (s : Bool) → is_set r.standard_date ≡ s
        → cond (is_set r.standard_date) (cond (daylight_between (year_bias y r).daylight_start (year_bias y r).standard_start u) (daylight_sum r) (standard_sum r)) r.bias
        ≡ cond (daylight_between (year_bias y r).daylight_start (year_bias y r).standard_start u) (year_bias y r).daylight (year_bias y r).standard
    go true h s e = rw (h, (both (is_set r.standard_date) _ h).0)
    go false h true e = rw (h, e)
    go false h false e = rw (h, e)

-- ---- its biases are in range
module _ (y : ℕ) (r : Rule) (ok : check_dates r ≡ answered tt) where
  pub standard-ok : in_bias_range (year_bias y r).standard ≡ true
  unfolding year_bias
  standard-ok = go (switches_in y r) refl (is_set r.standard_date) refl
    where
      go : (c : Bool) → switches_in y r ≡ c → (s : Bool) → is_set r.standard_date ≡ s → in_bias_range (year_bias y r).standard ≡ true
      go true h s e = rw h (switching y r ok h).standard_ok
      go false h true e = rw (h, e) (dated r ok e).standard_ok
      go false h false e = rw (h, e) (undated r ok e)

  pub daylight-ok : in_bias_range (year_bias y r).daylight ≡ true
  unfolding year_bias
  daylight-ok = go (switches_in y r) refl (is_set r.standard_date) refl
    where
      go : (c : Bool) → switches_in y r ≡ c → (s : Bool) → is_set r.standard_date ≡ s → in_bias_range (year_bias y r).daylight ≡ true
      go true h s e = rw h (switching y r ok h).daylight_ok
      go false h true e = rw (h, e) (dated r ok e).standard_ok
      go false h false e = rw (h, e) (undated r ok e)

-- the bias that a checked rule puts in force is in range
pub bias-ok : (r : Rule) (u : ℕ) → check_dates r ≡ answered tt → in_bias_range (bias_of r u) ≡ true
unfolding bias_of
bias-ok r u c = go (is_set r.standard_date) refl (is_daylight r u)
  where
    go : (b : Bool) → is_set r.standard_date ≡ b → (d : Bool) → in_bias_range (cond b (cond d (daylight_sum r) (standard_sum r)) r.bias) ≡ true
    go true e true = (dated r c e).daylight_ok
    go true e false = (dated r c e).standard_ok
    go false e d = undated r c e
