-- An outcome is known if it is an answer, or a refusal whose number the table has: then the code's enum and the outcome say the same.
use Prim.Native.Nat.{ℕ}
use mathlib.Core.Path.{◌≡◌}
use Rattle.refusal.specs.Number.{number_of, refusal_of}
use Rattle.refusal.specs.Outcome.{Outcome}
use Rattle.refusal.proofs.Gives.{Gives}

abbrev pub InTable : ℕ → Type 0
InTable n = number_of (refusal_of n) ≡ n

abbrev pub Known : {A : Type 0} → Outcome A → Type 0
Known o = Gives InTable o
