-- The checks of a rule, in the paper's order, and its normal form.
use Rattle.std.specs.Prelude.{ℕ, Bool, true, false, cond, not, ◌&&◌, ℤ, pos, ◌+ℤ◌, leb, ltb, eqb, Option, Some, None}
use Rattle.refusal.specs.Outcome.{Outcome, require, ◌>>◌}
use Rattle.zone.specs.declared.rules.Rule.{Rule}
use Rattle.zone.specs.declared.dates.SystemTime.{SystemTime}
use Rattle.zone.specs.Dates.{is_set, yearly_date, date_ok, unset, NormalDate, normal_date}
use Rattle.zone.specs.Biases.{in_bias_range}

-- both dates are set, with the same year (0 is every year), or neither is (11)
abbrev pub dates_match : SystemTime → SystemTime → Bool
dates_match standard daylight =
    cond (is_set standard)
    (is_set daylight && eqb standard.year daylight.year)
    (not (is_set daylight))

-- the standard and the daylight bias sum, as whole numbers
abbrev pub standard_sum : Rule → ℤ
standard_sum r = r.bias +ℤ r.standard_bias

abbrev pub daylight_sum : Rule → ℤ
daylight_sum r = r.bias +ℤ r.daylight_bias

-- the biases that count are in range (9): the two sums where the dates are set, else Bias alone
unfoldable pub biases_ok : Rule → Bool
biases_ok r = cond (is_set r.standard_date) (in_bias_range (standard_sum r) && in_bias_range (daylight_sum r)) (in_bias_range r.bias)

-- a rule's dates and biases
unfoldable pub check_dates : Rule → Outcome (Unit {0})
check_dates r = do
  require (date_ok r.standard_date) 10
  require (date_ok r.daylight_date) 10
  require (dates_match r.standard_date r.daylight_date) 11
  require (biases_ok r) 9

-- The same tests joined, and which one fails first where not all hold. No public contract rests on these: laws show that they come to `check_dates`.
abbrev pub dates_sound : SystemTime → SystemTime → Bool
dates_sound standard daylight = date_ok standard && date_ok daylight && dates_match standard daylight

abbrev pub sound_rule : Rule → Bool
sound_rule r = dates_sound r.standard_date r.daylight_date && biases_ok r

abbrev pub fault_of : SystemTime → SystemTime → ℕ
fault_of standard daylight = cond (date_ok standard) (cond (date_ok daylight) (cond (dates_match standard daylight) 9 11) 10) 10

-- a year up to 30827, and above that of the rule before, if there is one (8)
abbrev pub is_above : Option ℕ → ℕ → Bool
is_above None y = true
is_above (Some x) y = ltb x y

abbrev pub year_fits : Option ℕ → ℕ → Bool
year_fits before y = leb y 30827 && is_above before y

unfoldable pub check_rule : Option ℕ → Rule → Outcome (Unit {0})
check_rule before r = do
  require (year_fits before r.year) 8
  check_dates r

-- A rule that fewer tests show to pass: both dates of every year, or neither set. No public contract rests on these: a law shows that such a rule passes.
abbrev pub dates_usual : SystemTime → SystemTime → Bool
dates_usual standard daylight = cond (is_set standard) (yearly_date standard && yearly_date daylight) (not (is_set daylight))

abbrev pub sound_usual : Rule → Bool
sound_usual r = dates_usual r.standard_date r.daylight_date && biases_ok r

abbrev pub usual_rule : Option ℕ → Rule → Bool
usual_rule before r = year_fits before r.year && sound_usual r

-- all zero: what stands where there is no rule
abbrev pub no_rule : Rule
no_rule =
    record {
      year = 0;
      active = false;
      bias = pos 0;
      standard_bias = pos 0;
      daylight_bias = pos 0;
      standard_date = unset;
      daylight_date = unset;
    }

-- a normal rule has normal dates
pub record NormalRule (r : Rule) : Type 0 where
  pub standard : NormalDate r.standard_date
  pub daylight : NormalDate r.daylight_date

-- a rule made normal
unfoldable pub normal_rule : Rule → Rule
normal_rule r =
    record {
      year = r.year;
      active = r.active;
      bias = r.bias;
      standard_bias = r.standard_bias;
      daylight_bias = r.daylight_bias;
      standard_date = normal_date r.standard_date;
      daylight_date = normal_date r.daylight_date;
    }

-- a rule of another year and mark
abbrev pub as_of : ℕ → Bool → Rule → Rule
as_of y mark r =
    record {
      year = y;
      active = mark;
      bias = r.bias;
      standard_bias = r.standard_bias;
      daylight_bias = r.daylight_bias;
      standard_date = r.standard_date;
      daylight_date = r.daylight_date;
    }
