-- What a rule that passed its checks has: valid dates and sums in range, or a Bias in range.
use Rattle.std.proofs.Common.{◌≡◌, true, false, ◌&&◌, eqb}
use Rattle.refusal.specs.Outcome.{answered}
use Rattle.refusal.proofs.OutcomeLaws.{require-answered, last-require}
use Rattle.refusal.proofs.Tests.{both}
use Rattle.zone.specs.declared.rules.Rule.{Rule}
use Rattle.zone.specs.Dates.{is_set, date_ok}
use Rattle.zone.specs.Biases.{in_bias_range}
use Rattle.zone.specs.Rules.{standard_sum, daylight_sum, dates_match, biases_ok, check_dates}
use Rattle.in_force.specs.Steps.{Valid}
use Rattle.in_force.proofs.ValidDates.{valid}

pub record Dated (r : Rule) : Type 0 where
  pub standard_valid : Valid r.standard_date
  pub daylight_valid : Valid r.daylight_date
  pub standard_ok : in_bias_range (standard_sum r) ≡ true
  pub daylight_ok : in_bias_range (daylight_sum r) ≡ true

pub dated : (r : Rule) → check_dates r ≡ answered tt → is_set r.standard_date ≡ true → Dated r
unfolding check_dates biases_ok
dated r e h =
    let s = require-answered (date_ok r.standard_date) 10 _ tt e in
    let t = require-answered (date_ok r.daylight_date) 10 _ tt s.1 in
    let m = require-answered (dates_match r.standard_date r.daylight_date) 11 _ tt t.1 in
    let b : (in_bias_range (standard_sum r) && in_bias_range (daylight_sum r)) ≡ true = rw h at (last-require (biases_ok r) 9 m.1) in
    let n : (is_set r.daylight_date && eqb r.standard_date.year r.daylight_date.year) ≡ true = rw h at m.0 in
    let k : is_set r.daylight_date ≡ true = (both (is_set r.daylight_date) _ n).0 in
    let o = both (in_bias_range (standard_sum r)) (in_bias_range (daylight_sum r)) b in
    record {
      standard_valid = valid _ (rw h at s.0);
      daylight_valid = valid _ (rw k at t.0);
      standard_ok = o.0;
      daylight_ok = o.1;
    }

pub undated : (r : Rule) → check_dates r ≡ answered tt → is_set r.standard_date ≡ false → in_bias_range r.bias ≡ true
unfolding check_dates biases_ok
undated r e h =
    let s = require-answered (date_ok r.standard_date) 10 _ tt e in
    let t = require-answered (date_ok r.daylight_date) 10 _ tt s.1 in
    let m = require-answered (dates_match r.standard_date r.daylight_date) 11 _ tt t.1 in
    rw h at (last-require (biases_ok r) 9 m.1)
