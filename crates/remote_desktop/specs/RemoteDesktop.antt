-- The remote desktop record, 172 bytes: Bias 4, StandardName 64, StandardDate 16, StandardBias 4, DaylightName 64, DaylightDate 16, DaylightBias 4.
use Rattle.std.specs.Prelude.{ℕ, true, List, ◌++◌, length, replicate, eqb, None, Result, Ok, Err}
use Rattle.refusal.specs.Outcome.{Outcome, refused, answered, require, ◌>>◌}
use Rattle.refusal.specs.Number.{number_of}
use Rattle.refusal.specs.declared.Refusal.{Refusal}
use Rattle.refusal.specs.Lent.{fitting}
use Rattle.little_endian.specs.Fields.{part, signed_at}
use Rattle.zone.specs.declared.rules.Rule.{Rule}
use Rattle.zone.specs.Rules.{check_dates, check_rule, normal_rule}
use Rattle.remote_desktop.specs.declared.RemoteDesktop.{RemoteDesktop}
use Rattle.records.specs.Layout.{date_at, date_bytes, bias_bytes}

unfoldable pub remote_rule : List ℕ → Rule
remote_rule s =
    record {
      year = 0;
      active = true;
      bias = signed_at s 0 4;
      standard_bias = signed_at s 84 4;
      daylight_bias = signed_at s 168 4;
      standard_date = date_at s 68;
      daylight_date = date_at s 152;
    }

unfoldable pub read_remote_desktop : List ℕ → Outcome Rule
read_remote_desktop s = do
  require (eqb (length s) 172) 2
  check_dates (remote_rule s)
  answered (normal_rule (remote_rule s))

-- the rule that a reading answers, or the number of its refusal
abbrev pub of_remote : Result RemoteDesktop Refusal → Outcome Rule
of_remote (Ok record_read) = answered record_read.rule
of_remote (Err why) = refused (number_of why)

-- the names that a reading answers: 64 raw bytes from a place, and zeros beside a refusal
abbrev pub name_beside : Outcome Rule → List ℕ → ℕ → List ℕ
name_beside (answered r) s at = part s at 64
name_beside (refused n) s at = replicate 64 0

abbrev pub standard_name : List ℕ → List ℕ
standard_name s = name_beside (read_remote_desktop s) s 4

abbrev pub daylight_name : List ℕ → List ℕ
daylight_name s = name_beside (read_remote_desktop s) s 88

unfoldable pub remote_bytes : Rule → List ℕ → List ℕ → List ℕ
remote_bytes r standard daylight =
    bias_bytes r.bias ++ standard ++ date_bytes r.standard_date ++ bias_bytes r.standard_bias
    ++ daylight ++ date_bytes r.daylight_date ++ bias_bytes r.daylight_bias

unfoldable pub write_remote_desktop : Rule → List ℕ → List ℕ → ℕ → Outcome (List ℕ)
write_remote_desktop r standard daylight room = do
  check_rule None r
  fitting (remote_bytes (normal_rule r) standard daylight) room
