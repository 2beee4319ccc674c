-- How long a definition is that is written: the shortest has 76 bytes, the longest 68,114.
use Prim.Native.Nat.{ℕ, ◌≤◌}
use mathlib.Core.Path.{◌≡◌, subst}
use mathlib.Core.List.{List, [], ◌∷◌}
use native.Mathlib.Omega.{arith}
use lib.ListN.{length}
use Rattle.refusal.specs.Outcome.{answered}
use Rattle.zone.specs.declared.rules.Rule.{Rule}
use Rattle.definition.specs.Definition.{definition_bytes, write_definition}
use Rattle.definition.proofs.writing.Stored.{length-definition}
use Rattle.definition.proofs.writing.Accepted.{accepted}

pub shortest : (r : Rule) → length (definition_bytes [] (r ∷ [])) ≡ 76
shortest r = length-definition [] (r ∷ [])

pub longest : (name : List ℕ) (row : List Rule) → length name ≡ 520 → length row ≡ 1024 → length (definition_bytes name row) ≡ 68114
longest name row n r = rw (length-definition name row, n, r)

-- and whatever is written lies between the two
pub between : (name : List ℕ) (row : List Rule) (room : ℕ) (s : List ℕ) → write_definition name row room ≡ answered s → (76 ≤ length s) × (length s ≤ 68114)
between name row room s e =
    let a = accepted name row room s e in
    let l = length-definition name row in
    subst (λ (t : List ℕ). (76 ≤ length t) × (length t ≤ 68114)) a.bytes (omega (arith, a.some), omega (arith, a.short, a.few))
