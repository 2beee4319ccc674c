-- TZDEFINITION: a header with the name, then the rules.
--   place 0 major, 1 minor, 2 header size (2 bytes), 4 flags (2), 6 name length n in 16-bit units (2), 8 the name (2n), 8 + 2n rule count (2).
-- The header size counts from the flags to the rule count. A TZRule is 66 bytes:
--   place 0 major, 1 minor, 2 size (2), 4 flags (2), 6 year (2), 8 X (14), 22 the biases and dates (44). Its size counts from the flags on.
use Rattle.std.specs.Prelude.{ℕ, zero, suc, ◌+◌, ◌*◌, ◌/◌, ◌%◌, Bool, true, cond, not, ◌&&◌, ◌||◌, List, [], ◌∷◌, ◌++◌, length, replicate, leb, eqb, Option, Some, None}
use Rattle.refusal.specs.Outcome.{Outcome, refused, answered, require, ◌>>=◌, ◌>>◌}
use Rattle.refusal.specs.Lent.{fitting}
use Rattle.little_endian.specs.Bytes.{to_bytes}
use Rattle.little_endian.specs.Fields.{part, unsigned_at, next_field}
use Rattle.utf16.specs.Surrogates.{has_lone_surrogate}
use Rattle.calendar.specs.Ranges.{within}
use Rattle.zone.specs.declared.rules.Rule.{Rule}
use Rattle.zone.specs.Rules.{check_rule, normal_rule}
use Rattle.rows.specs.Row.{check_row, active_rules}
use Rattle.records.specs.Layout.{rule_at, rule_field_bytes}
use Rattle.definition.specs.declared.header.Header.{Header}

-- ---- reading
-- With minor 1 a stated size is exact; another minor may have a greater one, and the rest is skipped.
abbrev pub size_ok : ℕ → ℕ → ℕ → Bool
size_ok minor stated size = cond (eqb minor 1) (eqb stated size) (leb size stated)

-- The header, field by field as the bytes come: 3, 4, 5, the name, 20, 2, 6, then 1 where the stated size runs past the bytes.
unfoldable pub read_header : List ℕ → Outcome Header
read_header s = do
  major ← next_field s 0 1
  require (eqb major 2) 3
  minor ← next_field s 1 1
  size ← next_field s 2 2
  flags ← next_field s 4 2
  require (eqb flags 0x0002) 4
  units ← next_field s 6 2
  require (within 0 260 units) 5
  require (leb (8 + 2 * units) (length s)) 1
  require (not (has_lone_surrogate (part s 8 (2 * units)))) 20
  require (size_ok minor size (6 + 2 * units)) 2
  count ← next_field s (8 + 2 * units) 2
  require (within 1 1024 count) 6
  require (leb (4 + size) (length s)) 1
  answered (record { minor = minor; size = size; units = units; count = count })

-- the lowest two flag bits of a rule: 3 is active, 0 is not, and no other number of them is right
abbrev pub is_active : ℕ → Bool
is_active flags = eqb (flags % 4) 3

abbrev pub bits_agree : ℕ → Bool
bits_agree flags = is_active flags || eqb (flags % 4) 0

-- what one rule of the bytes, or some in a row, give: the rules kept, whether the two bits agree in each, and the place after the last one
pub record Kept : Type 0 where
  pub rules : List Rule
  pub agree : Bool
  pub end : ℕ

-- the rule whose 66 bytes start at a place
abbrev pub rule_in : List ℕ → ℕ → Rule
rule_in s at = rule_at s (at + 22) (unsigned_at s (at + 6) 2) (is_active (unsigned_at s (at + 4) 2))

-- A rule of major 2 at a place, with its minor and its stated size: 2, 7, then 8, 10, 11, 9. `before` is the year of the kept rule before.
unfoldable pub read_rule : List ℕ → ℕ → ℕ → ℕ → Option ℕ → Outcome Kept
read_rule s at minor size before = do
  require (size_ok minor size 62) 2
  require (eqb (unsigned_at s (at + 8) 14) 0) 7
  check_rule before (rule_in s at)
  answered (record { rules = normal_rule (rule_in s at) ∷ []; agree = bits_agree (unsigned_at s (at + 4) 2); end = at + 4 + size })

-- One rule: 1 where its head or its stated size runs past the bytes; then one of another major is skipped by its size.
unfoldable pub read_one : List ℕ → ℕ → Option ℕ → Outcome Kept
read_one s at before = do
  major ← next_field s at 1
  minor ← next_field s (at + 1) 1
  size ← next_field s (at + 2) 2
  require (leb (at + 4 + size) (length s)) 1
  cond (eqb major 2) (read_rule s at minor size before) (answered (record { rules = []; agree = true; end = at + 4 + size }))

-- the year of the last of some rules, or what it was before them
abbrev pub year_after : Option ℕ → List Rule → Option ℕ
year_after before [] = before
year_after before (r ∷ row) = year_after (Some r.year) row

abbrev pub joined : Kept → Kept → Kept
joined a b = record { rules = a.rules ++ b.rules; agree = a.agree && b.agree; end = b.end }

-- so many rules from a place on
unfoldable pub read_rules : List ℕ → ℕ → ℕ → Option ℕ → Outcome Kept
read_rules s zero at before = answered (record { rules = []; agree = true; end = at })
read_rules s (suc more) at before = do
  one ← read_one s at before
  rest ← read_rules s more one.end (year_after before one.rules)
  answered (joined one rest)

-- what a definition holds: its rules, and its name, from place 8 on
pub record Definition : Type 0 where
  pub rules : List Rule
  pub name_length : ℕ

-- The header, its rules, then 12, and 2 where bytes follow although the header's minor is 1.
unfoldable pub read_definition : List ℕ → Outcome Definition
read_definition s = do
  h ← read_header s
  kept ← read_rules s h.count (4 + h.size) None
  require (kept.agree && eqb (active_rules kept.rules) 1) 12
  require (not (eqb h.minor 1) || eqb kept.end (length s)) 2
  answered (record { rules = kept.rules; name_length = 2 * h.units })

-- into a row with room for so many rules: 13 comes last
unfoldable pub read_into : List ℕ → ℕ → Outcome (List Rule)
read_into s room = do
  d ← read_definition s
  fitting d.rules room

-- the kept rules
unfoldable pub kept_rules : List ℕ → Outcome (List Rule)
kept_rules s = do
  d ← read_definition s
  answered d.rules

-- the part of the bytes that holds the name; an empty part where reading refuses for any cause but 13
abbrev pub name_in_definition : List ℕ → Outcome Definition → List ℕ
name_in_definition s (refused n) = []
name_in_definition s (answered d) = part s 8 d.name_length

unfoldable pub name_of : List ℕ → List ℕ
name_of s = name_in_definition s (read_definition s)

-- ---- writing
-- the bytes of a rule and of a definition, in normal form
unfoldable pub rule_bytes : Rule → List ℕ
rule_bytes r =
    (2 ∷ 1 ∷ []) ++ to_bytes 2 62 ++ to_bytes 2 (cond r.active 3 0) ++ to_bytes 2 r.year ++ replicate 14 0
    ++ rule_field_bytes (normal_rule r)

unfoldable pub rules_bytes : List Rule → List ℕ
rules_bytes [] = []
rules_bytes (r ∷ row) = rule_bytes r ++ rules_bytes row

unfoldable pub definition_bytes : List ℕ → List Rule → List ℕ
definition_bytes name row =
    (2 ∷ 1 ∷ []) ++ to_bytes 2 (6 + length name) ++ to_bytes 2 0x0002 ++ to_bytes 2 (length name / 2) ++ name
    ++ to_bytes 2 (length row) ++ rules_bytes row

-- the checks of a name that is to be written: 2, 5, 20
unfoldable pub check_name : List ℕ → Outcome (Unit {0})
check_name name = do
  require (eqb (length name % 2) 0) 2
  require (within 0 260 (length name / 2)) 5
  require (not (has_lone_surrogate name)) 20

-- the name's 2, 5 and 20, the row's 6 to 12, 13
unfoldable pub write_definition : List ℕ → List Rule → ℕ → Outcome (List ℕ)
write_definition name row room = do
  check_name name
  check_row row
  fitting (definition_bytes name row) room
