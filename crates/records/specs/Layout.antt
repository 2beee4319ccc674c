-- The fields that the records share, little-endian. Biases are two's complement, every other number is unsigned.
use Rattle.std.specs.Prelude.{ℕ, ◌+◌, Bool, List, ◌++◌, ℤ}
use Rattle.little_endian.specs.Bytes.{to_bytes}
use Rattle.little_endian.specs.TwosComplement.{unsigned}
use Rattle.little_endian.specs.Fields.{unsigned_at, signed_at}
use Rattle.zone.specs.declared.dates.SystemTime.{SystemTime}
use Rattle.zone.specs.declared.rules.Rule.{Rule}

-- SYSTEMTIME, 16 bytes
unfoldable pub date_at : List ℕ → ℕ → SystemTime
date_at s at =
    record {
      year = unsigned_at s at 2;
      month = unsigned_at s (at + 2) 2;
      weekday = unsigned_at s (at + 4) 2;
      day = unsigned_at s (at + 6) 2;
      hour = unsigned_at s (at + 8) 2;
      minute = unsigned_at s (at + 10) 2;
      second = unsigned_at s (at + 12) 2;
      millisecond = unsigned_at s (at + 14) 2;
    }

unfoldable pub date_bytes : SystemTime → List ℕ
date_bytes d =
    to_bytes 2 d.year ++ to_bytes 2 d.month ++ to_bytes 2 d.weekday ++ to_bytes 2 d.day
    ++ to_bytes 2 d.hour ++ to_bytes 2 d.minute ++ to_bytes 2 d.second ++ to_bytes 2 d.millisecond

-- the 44 bytes that a registry record is and a TZRule ends in: three biases, standard date, daylight date
unfoldable pub rule_at : List ℕ → ℕ → ℕ → Bool → Rule
rule_at s at y mark =
    record {
      year = y;
      active = mark;
      bias = signed_at s at 4;
      standard_bias = signed_at s (at + 4) 4;
      daylight_bias = signed_at s (at + 8) 4;
      standard_date = date_at s (at + 12);
      daylight_date = date_at s (at + 28);
    }

abbrev pub bias_bytes : ℤ → List ℕ
bias_bytes b = to_bytes 4 (unsigned 4 b)

unfoldable pub rule_field_bytes : Rule → List ℕ
rule_field_bytes r =
    bias_bytes r.bias ++ bias_bytes r.standard_bias ++ bias_bytes r.daylight_bias
    ++ date_bytes r.standard_date ++ date_bytes r.daylight_date
