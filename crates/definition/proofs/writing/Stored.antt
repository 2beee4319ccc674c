-- Fields stored one after another are the rule, the header, the definition stored at once.
use Prim.Native.Nat.{ℕ, ◌+◌, ◌*◌, ◌/◌}
use mathlib.Core.Path.{◌≡◌, refl}
use mathlib.Core.Bool.{cond}
use mathlib.Core.List.{List, [], ◌∷◌, ◌++◌, append_assoc}
use native.Mathlib.Nat.{add_assoc}
use native.Mathlib.Omega.{arith}
use lib.ListN.{length, length-append}
use Rattle.little_endian.specs.Bytes.{to_bytes}
use Rattle.little_endian.specs.Stored.{stored}
use Rattle.little_endian.proofs.ByteLaws.{length-toBytes}
use Rattle.little_endian.proofs.StoredLaws.{stored-le, stored-append}
use Rattle.zone.specs.declared.rules.Rule.{Rule}
use Rattle.zone.specs.Rules.{normal_rule}
use Rattle.records.specs.Layout.{rule_field_bytes}
use Rattle.records.proofs.layout.PutLaws.{length_fields}
use Rattle.definition.specs.Definition.{rule_bytes, rules_bytes, definition_bytes}
use Rattle.definition.specs.Steps.{rule_head, header_bytes}

head-is : (flags year : ℕ) → to_bytes 2 258 ++ (to_bytes 2 62 ++ (to_bytes 2 flags ++ (to_bytes 2 year ++ (to_bytes 8 0 ++ to_bytes 6 0)))) ≡ rule_head flags year
unfolding to_bytes rule_head
head-is flags year = refl

pub put-head : (s : List ℕ) (at flags year : ℕ) {a b c d e f : List ℕ}
    → a ≡ stored s at (to_bytes 2 258)
    → b ≡ stored a (at + 2) (to_bytes 2 62)
    → c ≡ stored b (at + 4) (to_bytes 2 flags)
    → d ≡ stored c (at + 6) (to_bytes 2 year)
    → e ≡ stored d (at + 8) (to_bytes 8 0)
    → f ≡ stored e (at + 16) (to_bytes 6 0)
    → f ≡ stored s at (rule_head flags year)
put-head s at flags year ea eb ec ed ee ef = rw (← (head-is flags year)) (simp (stored-le, add_assoc, ea, eb, ec, ed, ee, ef))

length-head : (flags year : ℕ) → length (rule_head flags year) ≡ 22
unfolding to_bytes rule_head
length-head flags year = refl

rule-is : (r : Rule) → rule_bytes r ≡ rule_head (cond r.active 3 0) r.year ++ rule_field_bytes (normal_rule r)
unfolding to_bytes rule_head rule_bytes
rule-is r = refl

pub put-rule : (s : List ℕ) (at flags : ℕ) (r n : Rule) {a b : List ℕ} → flags ≡ cond r.active 3 0 → n ≡ normal_rule r
    → a ≡ stored s at (rule_head flags r.year)
    → b ≡ stored a (at + 22) (rule_field_bytes n)
    → b ≡ stored s at (rule_bytes r)
put-rule s at flags r n ef en ea eb = rw (rule-is r, stored-append, length-head, ← ef, ← en, ← ea) eb

pub length-rule : (r : Rule) → length (rule_bytes r) ≡ 66
length-rule r = rw (rule-is r, length-append, length-head, length_fields)

front-is : (name : List ℕ) (count : ℕ) → to_bytes 2 258 ++ (to_bytes 2 (6 + length name) ++ (to_bytes 2 2 ++ (to_bytes 2 (length name / 2) ++ (name ++ to_bytes 2 count)))) ≡ header_bytes name count
unfolding to_bytes header_bytes
front-is name count = simp append_assoc

pub put_front : (s name : List ℕ) (count : ℕ) {a b c d e f : List ℕ}
    → a ≡ stored s 0 (to_bytes 2 258)
    → b ≡ stored a 2 (to_bytes 2 (6 + length name))
    → c ≡ stored b 4 (to_bytes 2 2)
    → d ≡ stored c 6 (to_bytes 2 (length name / 2))
    → e ≡ stored d 8 name
    → f ≡ stored e (8 + length name) (to_bytes 2 count)
    → f ≡ stored s 0 (header_bytes name count)
put_front s name count ea eb ec ed ee ef = rw (← (front-is name count)) (simp (stored-le, stored-append, ea, eb, ec, ed, ee, ef))

-- ---- a definition is its front and its rules, and its rules are stored one by one
pub definition-is : (name : List ℕ) (row : List Rule) → definition_bytes name row ≡ header_bytes name (length row) ++ rules_bytes row
unfolding to_bytes definition_bytes header_bytes
definition-is name row = simp append_assoc

pub rules-step : (s : List ℕ) (at : ℕ) (r : Rule) (row : List Rule) {a : List ℕ} → a ≡ stored s at (rule_bytes r)
    → stored a (at + 66) (rules_bytes row) ≡ stored s at (rules_bytes (r ∷ row))
unfolding rules_bytes
rules-step s at r row ea = rw (stored-append, length-rule, ← ea)

pub length-rules : (row : List Rule) → length (rules_bytes row) ≡ 66 * length row
unfolding rules_bytes
length-rules [] = refl
length-rules (r ∷ row) = rw (length-append, length-rule, length-rules row) (omega arith)

pub length_front : (name : List ℕ) (count : ℕ) → length (header_bytes name count) ≡ 10 + length name
unfolding header_bytes
length_front name count = simp (length-append, length-toBytes) (omega arith)

pub length-definition : (name : List ℕ) (row : List Rule) → length (definition_bytes name row) ≡ 10 + length name + 66 * length row
length-definition name row = rw (definition-is, length-append, length_front, length-rules)
