-- Registry records as customers' exports hold them, with both switches at 23:59:59.999: read and written back; with second 60 or millisecond 1000 refused.
use Prim.Native.Nat.{ℕ}
use mathlib.Core.Path.{◌≡◌, refl}
use mathlib.Core.Bool.{true}
use mathlib.Core.List.{List, [], ◌∷◌, ◌++◌}
use lib.IntN.{pos, negsuc}
use Rattle.refusal.specs.Outcome.{refused, answered}
use Rattle.little_endian.specs.Bytes.{from_bytes, to_bytes}
use Rattle.little_endian.specs.TwosComplement.{signed, unsigned}
use Rattle.little_endian.specs.Fields.{unsigned_at}
use Rattle.zone.specs.declared.dates.SystemTime.{SystemTime}
use Rattle.zone.specs.declared.rules.Rule.{Rule}
use Rattle.zone.specs.Dates.{valid_date, normal_date}
use Rattle.zone.specs.Rules.{biases_ok, check_dates, check_rule, normal_rule}
use Rattle.records.specs.Layout.{date_at, date_bytes, rule_at, rule_field_bytes}
use Rattle.records.specs.Registry.{read_registry, write_registry}

-- every year, the last Sunday of month m at 23:59:59.999
abbrev last_millisecond : ℕ → SystemTime
last_millisecond m = record { year = 0; month = m; weekday = 0; day = 5; hour = 23; minute = 59; second = 59; millisecond = 999 }

-- zone P's biases
abbrev late : Rule
late =
    record {
      year = 0;
      active = true;
      bias = negsuc 59;
      standard_bias = pos 0;
      daylight_bias = negsuc 59;
      standard_date = last_millisecond 10;
      daylight_date = last_millisecond 3;
    }

-- Bias -60, StandardBias 0, DaylightBias -60, then the dates, with these four bytes for second and millisecond
abbrev late_bytes : List ℕ → List ℕ → List ℕ
late_bytes standard daylight =
    (196 ∷ 255 ∷ 255 ∷ 255 ∷ 0 ∷ 0 ∷ 0 ∷ 0 ∷ 196 ∷ 255 ∷ 255 ∷ 255 ∷ [])
    ++ (0 ∷ 0 ∷ 10 ∷ 0 ∷ 0 ∷ 0 ∷ 5 ∷ 0 ∷ 23 ∷ 0 ∷ 59 ∷ 0 ∷ [])
    ++ standard
    ++ (0 ∷ 0 ∷ 3 ∷ 0 ∷ 0 ∷ 0 ∷ 5 ∷ 0 ∷ 23 ∷ 0 ∷ 59 ∷ 0 ∷ [])
    ++ daylight

-- 59.999, 60.000 and 59.1000
abbrev last : List ℕ
last = 59 ∷ 0 ∷ 231 ∷ 3 ∷ []

abbrev second60 : List ℕ
second60 = 60 ∷ 0 ∷ 0 ∷ 0 ∷ []

abbrev millisecond1000 : List ℕ
millisecond1000 = 59 ∷ 0 ∷ 232 ∷ 3 ∷ []

pub late-read : (read_registry (late_bytes last last) ≡ answered late) × (write_registry late 44 ≡ answered (late_bytes last last))
unfolding read_registry write_registry rule_at date_at rule_field_bytes date_bytes check_rule check_dates valid_date biases_ok normal_rule normal_date signed unsigned from_bytes to_bytes unsigned_at
late-read = (refl, refl)

pub late-refused :
    (read_registry (late_bytes second60 last) ≡ refused 10)
    × (read_registry (late_bytes last second60) ≡ refused 10)
    × (read_registry (late_bytes millisecond1000 last) ≡ refused 10)
    × (read_registry (late_bytes last millisecond1000) ≡ refused 10)
unfolding read_registry rule_at date_at check_dates valid_date biases_ok signed from_bytes unsigned_at
late-refused = (refl, refl, refl, refl)
