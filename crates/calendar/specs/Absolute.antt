-- A TIME is absolute if it is above zero, an interval otherwise; by revision 1.0 zero is absolute, too.
use Rattle.std.specs.Prelude.{ℕ, zero, suc, Bool, true, false, ℤ, pos, negsuc, eqb}
use Rattle.refusal.specs.Outcome.{Outcome, answered, ◌>>◌}
use Rattle.calendar.specs.Revisions.{revision10, check_revision}

abbrev pub absolute_by : ℕ → ℤ → Bool
absolute_by ρ (pos zero) = eqb ρ revision10
absolute_by ρ (pos (suc n)) = true
absolute_by ρ (negsuc n) = false

abbrev pub is_absolute : ℕ → ℤ → Outcome Bool
is_absolute ρ t = do
  check_revision ρ
  answered (absolute_by ρ t)
