-- What a name and a row are that are written.
use Prim.Native.Nat.{ℕ, ◌/◌, ◌%◌, ◌≤◌}
use mathlib.Core.Path.{◌≡◌}
use mathlib.Core.Bool.{false, not}
use mathlib.Core.List.{List}
use native.Mathlib.Omega.{arith}
use lib.ListN.{length}
use lib.Dec.{leb, eqb}
use borrow.Author.Tests.{leb-true, eqb-true, not-true}
use Rattle.refusal.specs.Outcome.{answered}
use Rattle.refusal.proofs.OutcomeLaws.{then-answered, require-answered, last-require, answered-is}
use Rattle.utf16.specs.Surrogates.{has_lone_surrogate}
use Rattle.calendar.specs.Ranges.{within}
use Rattle.calendar.proofs.ranges.Within.{within-is}
use Rattle.zone.specs.declared.rules.Rule.{Rule}
use Rattle.rows.specs.Row.{check_row}
use Rattle.definition.specs.Definition.{definition_bytes, check_name, write_definition}

pub record NameAccepted (name : List ℕ) : Type 0 where
  pub even : length name % 2 ≡ 0
  pub short : length name ≤ 520
  pub none_lone : has_lone_surrogate name ≡ false

pub name-accepted : (name : List ℕ) → check_name name ≡ answered tt → NameAccepted name
unfolding check_name
name-accepted name e =
    let (a, e1) = require-answered (eqb (length name % 2) 0) 2 _ tt e in
    let (b, e2) = require-answered (within 0 260 (length name / 2)) 5 _ tt e1 in
    let even = eqb-true (length name % 2) 0 a in
    record {
      even = even;
      short = omega (arith, even, (within-is 0 260 (length name / 2) b).1);
      none_lone = not-true (has_lone_surrogate name) (last-require (not (has_lone_surrogate name)) 20 e2);
    }

pub row-counted : (row : List Rule) → check_row row ≡ answered tt → (1 ≤ length row) × (length row ≤ 1024)
unfolding check_row
row-counted row e = within-is 1 1024 (length row) (require-answered (within 1 1024 (length row)) 6 _ tt e).0

pub record Accepted (name : List ℕ) (row : List Rule) (room : ℕ) (s : List ℕ) : Type 0 where
  pub even : length name % 2 ≡ 0
  pub short : length name ≤ 520
  pub none_lone : has_lone_surrogate name ≡ false
  pub check : check_row row ≡ answered tt
  pub some : 1 ≤ length row
  pub few : length row ≤ 1024
  pub enough : length (definition_bytes name row) ≤ room
  pub bytes : definition_bytes name row ≡ s

pub accepted : (name : List ℕ) (row : List Rule) (room : ℕ) (s : List ℕ) → write_definition name row room ≡ answered s → Accepted name row room s
unfolding write_definition
accepted name row room s e =
    let (u, n, e1) = then-answered (check_name name) _ s e in
    let (v, c, e2) = then-answered (check_row row) _ s e1 in
    let (d, e3) = require-answered (leb (length (definition_bytes name row)) room) 13 _ s e2 in
    let named = name-accepted name n in
    let count = row-counted row c in
    record {
      even = named.even;
      short = named.short;
      none_lone = named.none_lone;
      check = c;
      some = count.0;
      few = count.1;
      enough = leb-true (length (definition_bytes name row)) room d;
      bytes = answered-is (definition_bytes name row) s e3;
    }
