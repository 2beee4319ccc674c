-- Revisions of source document 004, by number: 10 is 1.0, 12 is 1.2. By its history, 1.1 made zero an interval and second 60 valid, and 1.2 kept both.
use Rattle.std.specs.Prelude.{ℕ, Bool, ◌||◌, eqb}
use Rattle.refusal.specs.Outcome.{Outcome, require}

abbrev pub revision10 : ℕ
revision10 = 10

abbrev pub revision12 : ℕ
revision12 = 12

abbrev pub is_revision : ℕ → Bool
is_revision ρ = eqb ρ revision10 || eqb ρ revision12

-- any other number is refused with 22
abbrev pub check_revision : ℕ → Outcome (Unit {0})
check_revision ρ = require (is_revision ρ) 22
