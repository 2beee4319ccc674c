-- R-9 of document 02: what revision 1.0 changes, that nothing else differs, and that any other number is refused before every other check.
use Rattle.std.specs.Prelude.{ℕ, ◌≡◌, true, false, ℤ, pos}
use Rattle.refusal.specs.Outcome.{refused, answered}
use Rattle.calendar.specs.declared.fields.TimeFields.{TimeFields}
use Rattle.calendar.specs.Revisions.{revision10, revision12}
use Rattle.calendar.specs.Absolute.{is_absolute}
use Rattle.calendar.specs.Fields.{time_to_fields, fields_to_time}

pub record TwoRevisions : Type 0 where
  pub same_fields : (time : ℤ) → time_to_fields revision10 time ≡ time_to_fields revision12 time
  pub same_time : (fields : TimeFields) → (fields.second ≡ pos 60 → ⊥) → fields_to_time revision10 fields ≡ fields_to_time revision12 fields
  pub same_absolute : (time : ℤ) → (time ≡ pos 0 → ⊥) → is_absolute revision10 time ≡ is_absolute revision12 time
  -- the two changes
  pub second60 : (fields : TimeFields) → fields.second ≡ pos 60 → fields_to_time revision10 fields ≡ refused 14
  pub zero_absolute : is_absolute revision10 (pos 0) ≡ answered true
  pub zero_interval : is_absolute revision12 (pos 0) ≡ answered false
  -- any other number, with whatever TIME and whatever fields
  pub other_fields : (ρ : ℕ) → (ρ ≡ revision10 → ⊥) → (ρ ≡ revision12 → ⊥) → (time : ℤ) → time_to_fields ρ time ≡ refused 22
  pub other_time : (ρ : ℕ) → (ρ ≡ revision10 → ⊥) → (ρ ≡ revision12 → ⊥) → (fields : TimeFields) → fields_to_time ρ fields ≡ refused 22
  pub other_absolute : (ρ : ℕ) → (ρ ≡ revision10 → ⊥) → (ρ ≡ revision12 → ⊥) → (time : ℤ) → is_absolute ρ time ≡ refused 22
