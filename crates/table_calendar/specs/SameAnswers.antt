-- R-6 of document 02: on every input the two calendars give one answer, refusals too.
use Rattle.std.specs.Prelude.{ℕ, ◌≡◌, ℤ, Result}
use Rattle.refusal.specs.Results.{outcome_of}
use Rattle.refusal.specs.declared.Refusal.{Refusal}
use Rattle.calendar.specs.declared.fields.TimeFields.{TimeFields}
use Rattle.calendar.specs.Fields.{time_to_fields, fields_to_time}

-- what meets the contract of a call and what meets that of the call by table are the same answer:
-- for every revision number and every TIME, `time_to_fields` and `time_to_fields_by_table`; for all fields with it, `fields_to_time` and `fields_to_time_by_table`
pub record SameAnswers : Type 0 where
  pub same_fields : (ρ : ℕ) (time : ℤ) (first by_table : Result TimeFields Refusal) → outcome_of first ≡ time_to_fields ρ time → outcome_of by_table ≡ time_to_fields ρ time → first ≡ by_table
  pub same_time : (ρ : ℕ) (fields : TimeFields) (first by_table : Result ℤ Refusal) → outcome_of first ≡ fields_to_time ρ fields → outcome_of by_table ≡ fields_to_time ρ fields → first ≡ by_table
