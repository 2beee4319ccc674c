-- Answers on records as C sees them: the refusal's number first, 0 for none, and zeros beside a refusal.
use Rattle.std.specs.Prelude.{ℕ, List, replicate, Result, Ok, Err}
use Rattle.refusal.specs.Outcome.{Outcome, refused, answered}
use Rattle.refusal.specs.Number.{number_of}
use Rattle.refusal.specs.declared.Refusal.{Refusal}
use Rattle.zone.specs.declared.rules.Rule.{Rule}
use Rattle.zone.specs.Rules.{no_rule}
use Rattle.remote_desktop.specs.declared.RemoteDesktop.{RemoteDesktop}
use Rattle.answers_for_c.specs.declared.zone_records.RuleForC.{RuleForC}
use Rattle.answers_for_c.specs.declared.zone_records.LengthForC.{LengthForC}
use Rattle.answers_for_c.specs.declared.zone_records.RemoteDesktopForC.{RemoteDesktopForC}

abbrev pub rule_for_c : Outcome Rule → RuleForC
rule_for_c (answered r) = record { refusal = 0; rule = r }
rule_for_c (refused n) = record { refusal = n; rule = no_rule }

abbrev pub length_for_c : Outcome ℕ → LengthForC
length_for_c (answered n) = record { refusal = 0; length = n }
length_for_c (refused n) = record { refusal = n; length = 0 }

-- a rule, or a refusal, with both names
abbrev pub with_names : RuleForC → List ℕ → List ℕ → RemoteDesktopForC
with_names r standard daylight =
    record { refusal = r.refusal; rule = r.rule; standard_name = record { bytes = standard }; daylight_name = record { bytes = daylight } }

abbrev pub remote_for_c : Outcome Rule → List ℕ → List ℕ → RemoteDesktopForC
remote_for_c o standard daylight = with_names (rule_for_c o) standard daylight

-- what a reading comes to
abbrev pub remote_told : Result RemoteDesktop Refusal → RemoteDesktopForC
remote_told (Ok read) = remote_for_c (answered read.rule) read.standard_name read.daylight_name
remote_told (Err why) = remote_for_c (refused (number_of why)) (replicate 64 0) (replicate 64 0)
