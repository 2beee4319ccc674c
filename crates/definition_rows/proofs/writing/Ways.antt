-- Each way out of a writing, as the code comes to it.
use Prim.Native.Nat.{ℕ, ◌+◌, ◌*◌, ◌/◌, ◌%◌, ◌<◌, ◌≤◌}
use mathlib.Core.Path.{◌≡◌, sym, ap, ◌∙◌}
use mathlib.Core.Bool.{Bool, true, false, not}
use mathlib.Core.List.{List, ◌++◌}
use native.Mathlib.Omega.{arith}
use lib.ListN.{length, drop}
use lib.Seq.{take-length}
use borrow.Author.Tests.{le-leb, lt-leb, eq-eqb, ne_eqb}
use Rattle.refusal.specs.Outcome.{refused, answered, require}
use Rattle.little_endian.specs.Fields.{part}
use Rattle.little_endian.specs.Stored.{stored}
use Rattle.little_endian.proofs.StoredLaws.{stored-append, stored-front}
use Rattle.utf16.specs.Surrogates.{has_lone_surrogate}
use Rattle.calendar.specs.Ranges.{within}
use Rattle.zone.specs.declared.rules.Rule.{Rule}
use Rattle.rows.specs.Row.{check_row}
use Rattle.definition.specs.Definition.{rules_bytes, definition_bytes, check_name, write_definition}
use Rattle.definition.specs.Steps.{header_bytes}
use Rattle.definition.proofs.writing.Stored.{definition-is, length_front, length-definition}

-- ---- the checks of a name
module _ (name : List ℕ) where
  pub odd : (length name % 2 ≡ 0 → ⊥) → refused 2 ≡ check_name name
  unfolding check_name
  odd h = rw (ne_eqb (length name % 2) 0 h)

  module _ (even : length name % 2 ≡ 0) where
    pub long : within 0 260 (length name / 2) ≡ false → refused 5 ≡ check_name name
    unfolding check_name
    long h = rw (eq-eqb (length name % 2) 0 even, h)

    pub looked-through : within 0 260 (length name / 2) ≡ true → (lone : Bool) → lone ≡ has_lone_surrogate (part name 0 (2 * (length name / 2))) → require (not lone) 20 ≡ check_name name
    unfolding check_name
    looked-through h lone e =
        let two : 2 * (length name / 2) ≡ length name = omega (arith, even) in
        rw (eq-eqb (length name % 2) 0 even, h, e, two, take-length name)

-- ---- the checks of a writing
module _ (name : List ℕ) (row : List Rule) (room : ℕ) where
  pub name-refused : {n : ℕ} → check_name name ≡ refused n → write_definition name row room ≡ refused n
  unfolding write_definition
  name-refused e = rw e

  module _ (n : check_name name ≡ answered tt) where
    pub row-refused : {n : ℕ} → check_row row ≡ refused n → write_definition name row room ≡ refused n
    unfolding write_definition
    row-refused e = rw (n, e)

    module _ (r : check_row row ≡ answered tt) where
      pub no-room : room < 10 + length name + 66 * length row → write_definition name row room ≡ refused 13
      unfolding write_definition
      no-room l = rw (n, r, length-definition name row, lt-leb (10 + length name + 66 * length row) room l)

      pub has-room : 10 + length name + 66 * length row ≤ room → write_definition name row room ≡ answered (definition_bytes name row)
      unfolding write_definition
      has-room l = rw (n, r, length-definition name row, le-leb (10 + length name + 66 * length row) room l)

-- the header, then the rules behind it, are the whole definition at the output's start
pub put-whole : (name : List ℕ) (row : List Rule) (out : List ℕ) → 10 + length name + 66 * length row ≤ length out
    → stored (stored out 0 (header_bytes name (length row))) (10 + length name) (rules_bytes row) ≡ definition_bytes name row ++ drop (length (definition_bytes name row)) out
put-whole name row out l =
    let whole = definition-is name row in
    let front = header_bytes name (length row) in
    let behind : 10 + length name ≡ 0 + length front = omega (arith, length_front name (length row)) in
    let room : length (front ++ rules_bytes row) ≤ length out = rw (← whole) (omega (arith, l, length-definition name row)) in
    ap (λ (n : ℕ). stored (stored out 0 front) n (rules_bytes row)) behind
    ∙ sym (stored-append out 0 front (rules_bytes row))
    ∙ stored-front out (front ++ rules_bytes row) room
    ∙ ap (λ (m : List ℕ). m ++ drop (length m) out) (sym whole)
