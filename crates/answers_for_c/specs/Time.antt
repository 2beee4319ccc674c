-- Answers as C sees them: the refusal's number first, 0 for none, and zeros or false beside a refusal.
use Rattle.std.specs.Prelude.{ℕ, Bool, false, ℤ, pos}
use Rattle.refusal.specs.Outcome.{Outcome, refused, answered}
use Rattle.calendar.specs.declared.fields.TimeFields.{TimeFields}
use Rattle.answers_for_c.specs.declared.time.AbsoluteForC.{AbsoluteForC}
use Rattle.answers_for_c.specs.declared.time.FieldsForC.{FieldsForC}
use Rattle.answers_for_c.specs.declared.time.TimeForC.{TimeForC}
use Rattle.answers_for_c.specs.declared.time.SecondsForC.{SecondsForC}

abbrev pub absolute_for_c : Outcome Bool → AbsoluteForC
absolute_for_c (answered b) = record { refusal = 0; absolute = b }
absolute_for_c (refused n) = record { refusal = n; absolute = false }

abbrev pub no_fields : TimeFields
no_fields =
    record {
      year = pos 0;
      month = pos 0;
      day = pos 0;
      hour = pos 0;
      minute = pos 0;
      second = pos 0;
      milliseconds = pos 0;
      weekday = pos 0;
    }

abbrev pub fields_for_c : Outcome TimeFields → FieldsForC
fields_for_c (answered f) = record { refusal = 0; fields = f }
fields_for_c (refused n) = record { refusal = n; fields = no_fields }

abbrev pub time_for_c : Outcome ℤ → TimeForC
time_for_c (answered t) = record { refusal = 0; time = t }
time_for_c (refused n) = record { refusal = n; time = pos 0 }

abbrev pub seconds_for_c : Outcome ℕ → SecondsForC
seconds_for_c (answered s) = record { refusal = 0; seconds = s }
seconds_for_c (refused n) = record { refusal = n; seconds = 0 }
