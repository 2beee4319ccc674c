-- Reading and writing refuse with numbers of the table alone.
use Prim.Native.Nat.{ℕ, zero, suc, ◌+◌, ◌*◌, ◌/◌, ◌%◌}
use mathlib.Core.Path.{refl}
use mathlib.Core.Bool.{not, ◌&&◌, ◌||◌}
use mathlib.Core.List.{List}
use lib.ListN.{length}
use lib.Dec.{leb, eqb}
use Rattle.std.specs.Prelude.{Option, None}
use Rattle.refusal.proofs.Gives.{gives-bind, gives_then, gives-test, gives-last, gives-cond}
use Rattle.refusal.proofs.Known.{InTable, Known}
use Rattle.calendar.specs.Ranges.{within}
use Rattle.little_endian.specs.Fields.{part, unsigned_at, next_field}
use Rattle.utf16.specs.Surrogates.{has_lone_surrogate}
use Rattle.zone.specs.declared.rules.Rule.{Rule}
use Rattle.zone.specs.Rules.{check_rule}
use Rattle.rows.specs.Row.{active_rules, check_row}
use Rattle.rows.proofs.CheckLaws.{rule-known, row-known}
use Rattle.definition.specs.Definition.{size_ok, rule_in, year_after, read_rule, read_one, read_rules, read_header, read_definition, read_into, definition_bytes, check_name, write_definition}

-- ---- the parts of a definition
known-field : (s : List ℕ) (at w : ℕ) → Known (next_field s at w)
known-field s at w = gives-test InTable (leb (at + w) (length s)) 1 _ refl tt

known-rule : (s : List ℕ) (at minor size : ℕ) (before : Option ℕ) → Known (read_rule s at minor size before)
unfolding read_rule
known-rule s at minor size before =
    gives-test InTable (size_ok minor size 62) 2 _ refl
    (gives-test InTable (eqb (unsigned_at s (at + 8) 14) 0) 7 _ refl (gives_then InTable (check_rule before (rule_in s at)) _ (rule-known before (rule_in s at)) tt))

known-one : (s : List ℕ) (at : ℕ) (before : Option ℕ) → Known (read_one s at before)
unfolding read_one
known-one s at before =
    gives-bind InTable (next_field s at 1) _ (known-field s at 1) (λ major.
    gives-bind InTable (next_field s (at + 1) 1) _ (known-field s (at + 1) 1) (λ minor.
    gives-bind InTable (next_field s (at + 2) 2) _ (known-field s (at + 2) 2) (λ size.
    gives-test InTable (leb (at + 4 + size) (length s)) 1 _ refl (gives-cond InTable (eqb major 2) _ _ (known-rule s at minor size before) tt))))

known-rules : (s : List ℕ) (count at : ℕ) (before : Option ℕ) → Known (read_rules s count at before)
unfolding read_rules
known-rules s zero at before = tt
known-rules s (suc more) at before =
    gives-bind InTable (read_one s at before) _ (known-one s at before) (λ one.
    gives-bind InTable (read_rules s more one.end (year_after before one.rules)) _ (known-rules s more one.end (year_after before one.rules)) (λ rest. tt))

known-header : (s : List ℕ) → Known (read_header s)
unfolding read_header
known-header s =
    gives-bind InTable (next_field s 0 1) _ (known-field s 0 1) (λ major.
    gives-test InTable (eqb major 2) 3 _ refl
    (gives-bind InTable (next_field s 1 1) _ (known-field s 1 1) (λ minor.
    gives-bind InTable (next_field s 2 2) _ (known-field s 2 2) (λ size.
    gives-bind InTable (next_field s 4 2) _ (known-field s 4 2) (λ flags.
    gives-test InTable (eqb flags 0x0002) 4 _ refl
    (gives-bind InTable (next_field s 6 2) _ (known-field s 6 2) (λ units.
    gives-test InTable (within 0 260 units) 5 _ refl
    (gives-test InTable (leb (8 + 2 * units) (length s)) 1 _ refl
    (gives-test InTable (not (has_lone_surrogate (part s 8 (2 * units)))) 20 _ refl
    (gives-test InTable (size_ok minor size (6 + 2 * units)) 2 _ refl
    (gives-bind InTable (next_field s (8 + 2 * units) 2) _ (known-field s (8 + 2 * units) 2) (λ count.
    gives-test InTable (within 1 1024 count) 6 _ refl (gives-test InTable (leb (4 + size) (length s)) 1 _ refl tt)))))))))))))

known-definition : (s : List ℕ) → Known (read_definition s)
unfolding read_definition
known-definition s =
    gives-bind InTable (read_header s) _ (known-header s) (λ h.
    gives-bind InTable (read_rules s h.count (4 + h.size) None) _ (known-rules s h.count (4 + h.size) None) (λ kept.
    gives-test InTable (kept.agree && eqb (active_rules kept.rules) 1) 12 _ refl (gives-test InTable (not (eqb h.minor 1) || eqb kept.end (length s)) 2 _ refl tt)))

pub known-into : (s : List ℕ) (room : ℕ) → Known (read_into s room)
unfolding read_into
known-into s room =
    gives-bind InTable (read_definition s) _ (known-definition s) (λ d. gives-test InTable (leb (length d.rules) room) 13 _ refl tt)

-- ---- a writing
pub name-known : (name : List ℕ) → Known (check_name name)
unfolding check_name
name-known name =
    gives-test InTable (eqb (length name % 2) 0) 2 _ refl
    (gives-test InTable (within 0 260 (length name / 2)) 5 _ refl (gives-last InTable (not (has_lone_surrogate name)) 20 refl))

pub known-write : (name : List ℕ) (row : List Rule) (room : ℕ) → Known (write_definition name row room)
unfolding write_definition
known-write name row room =
    gives_then InTable (check_name name) _ (name-known name)
    (gives_then InTable (check_row row) _ (row-known row) (gives-test InTable (leb (length (definition_bytes name row)) room) 13 _ refl tt))
