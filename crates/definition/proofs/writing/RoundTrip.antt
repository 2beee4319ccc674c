-- A definition there and back: what was written is read as its rules made normal, and it is normal itself.
use Prim.Native.Nat.{ℕ, suc, ◌+◌, ◌*◌, ◌/◌, ◌%◌, ◌<◌, ◌≤◌}
use mathlib.Core.Path.{◌≡◌, refl, sym, ap, subst, ◌∙◌}
use mathlib.Core.List.{List, ◌++◌, ◌∷◌, [], map, append_assoc}
use mathlib.Core.Bool.{Bool, true, false, cond, ◌&&◌, ◌||◌}
use native.Mathlib.Omega.{arith}
use native.Mathlib.Nat.{add_assoc, add-zero}
use lib.ListN.{length, drop, length-append}
use lib.Seq.{take_at}
use lib.Dec.{leb, eqb}
use borrow.Author.Tests.{le-leb, eq-eqb}
use Rattle.std.specs.Prelude.{Option, Some, None}
use Rattle.refusal.specs.Outcome.{answered}
use Rattle.refusal.proofs.OutcomeLaws.{then-answered, require-answered, last-require}
use Rattle.little_endian.specs.Bytes.{from_bytes, to_bytes}
use Rattle.little_endian.specs.Fields.{part, unsigned_at}
use Rattle.little_endian.proofs.FieldLaws.{field_past, field_skip, field-here}
use Rattle.little_endian.proofs.ByteLaws.{length-toBytes}
use Rattle.utf16.specs.Surrogates.{has_lone_surrogate}
use Rattle.calendar.specs.Ranges.{within}
use Rattle.calendar.proofs.ranges.Within.{is_within, within-is}
use Rattle.zone.specs.declared.rules.Rule.{Rule}
use Rattle.zone.specs.Dates.{normal_date}
use Rattle.zone.specs.Rules.{NormalRule, is_above, check_dates, check_rule, normal_rule, as_of}
use Rattle.rows.specs.Row.{check_rules, check_row, active_rules}
use Rattle.records.specs.Layout.{date_at, rule_at, rule_field_bytes}
use Rattle.zone.proofs.rules.Normal.{RuleFits, check-kept, fits-normal, normal-twice, normal-date}
use Rattle.records.proofs.registry.RoundTrip.{signed-back4, unsigned-lt4, date-back, date-skip, date-next}
use Rattle.definition.specs.Definition.{Kept, rule_in, read_rule, read_one, read_rules, read_header, read_definition, name_in_definition, name_of, rule_bytes, rules_bytes, definition_bytes, write_definition}
use Rattle.definition.specs.Places.{after_rule}
use Rattle.definition.specs.Normal.{NormalRuleAt, NormalRules, Normal}
use Rattle.definition.specs.Steps.{rule_head, header_bytes}
use Rattle.definition.proofs.writing.Stored.{length-rule, length-rules, length_front, length-definition, definition-is}
use Rattle.definition.proofs.writing.Accepted.{accepted}

-- the biases and dates of a rule, before other bytes
fields_back : (y : ℕ) (mark : Bool) (r : Rule) (b : List ℕ) → RuleFits r → rule_at (rule_field_bytes r ++ b) 0 y mark ≡ as_of y mark r
unfolding rule_at rule_field_bytes
fields_back y mark r b h =
    simp (
      append_assoc,
      field_skip,
      field-here,
      unsigned-lt4 r.bias h.bias,
      unsigned-lt4 r.standard_bias h.standard-bias,
      unsigned-lt4 r.daylight_bias h.daylight-bias,
      signed-back4,
      h.bias,
      h.standard-bias,
      h.daylight-bias,
      date-skip,
      date-next,
      date-back,
      h.standard,
      h.daylight,
    )

date-past : (a b : List ℕ) (at : ℕ) → date_at (a ++ b) (length a + at) ≡ date_at b at
unfolding date_at
date-past a b at = simp (add_assoc, field_past)

fields-past : (a b : List ℕ) (at y : ℕ) (mark : Bool) → rule_at (a ++ b) (length a + at) y mark ≡ rule_at b at y mark
unfolding rule_at
fields-past a b at y mark = simp (add_assoc, field_past, date-past)

-- ---- the fields of a rule's bytes, before other bytes
module _ (r : Rule) (b : List ℕ) (small : r.year < 65536) (h : RuleFits r) where
  major : unsigned_at (rule_bytes r ++ b) 0 1 ≡ 2
  unfolding unsigned_at from_bytes to_bytes rule_bytes
  major = refl

  minor : unsigned_at (rule_bytes r ++ b) 1 1 ≡ 1
  unfolding unsigned_at from_bytes to_bytes rule_bytes
  minor = refl

  size : unsigned_at (rule_bytes r ++ b) 2 2 ≡ 62
  unfolding unsigned_at from_bytes to_bytes rule_bytes
  size = refl

  flags : unsigned_at (rule_bytes r ++ b) 4 2 ≡ cond r.active 3 0
  unfolding unsigned_at from_bytes to_bytes rule_bytes
  flags = go r.active
    where
      go : (m : Bool) → cond m 3 0 % 256 + 256 * (cond m 3 0 / 256 % 256 + 256 * 0) ≡ cond m 3 0
      go true = refl
      go false = refl

  year : unsigned_at (rule_bytes r ++ b) 6 2 ≡ r.year
  unfolding unsigned_at from_bytes to_bytes rule_bytes
  year = omega arith

  unused : unsigned_at (rule_bytes r ++ b) 8 14 ≡ 0
  unfolding unsigned_at from_bytes to_bytes rule_bytes
  unused = refl

  head-past : (y : ℕ) (mark : Bool) → rule_at (rule_bytes r ++ b) 22 y mark ≡ rule_at (rule_field_bytes (normal_rule r) ++ b) 0 y mark
  unfolding to_bytes rule_bytes rule_head
  head-past y mark = fields-past (rule_head (cond r.active 3 0) r.year) (rule_field_bytes (normal_rule r) ++ b) 0 y mark

active-back : (m : Bool) → eqb (cond m 3 0 % 4) 3 ≡ m
active-back true = refl
active-back false = refl

agree-back : (m : Bool) → (eqb (cond m 3 0 % 4) 3 || eqb (cond m 3 0 % 4) 0) ≡ true
agree-back true = refl
agree-back false = refl

rule-kept : (before : Option ℕ) (r : Rule) → check_rule before r ≡ answered tt → check_rule before (as_of r.year r.active (normal_rule r)) ≡ answered tt
unfolding check_rule
rule-kept before r e =
    let p = require-answered (leb r.year 30827 && is_above before r.year) 8 (check_dates r) tt e in
    rw p.0 (check-kept r r.year r.active p.1)

-- ---- a rule's bytes between others are read as the rule made normal
module _ (r : Rule) (a b : List ℕ) (small : r.year < 65536) (h : RuleFits r) where
  abbrev whole : List ℕ
  whole = a ++ (rule_bytes r ++ b)

  field0 : unsigned_at whole (length a) 1 ≡ 2
  field0 = ap (λ (n : ℕ). unsigned_at whole n 1) (sym (add-zero (length a))) ∙ field_past 1 a (rule_bytes r ++ b) 0 ∙ major r b small h

  field1 : unsigned_at whole (length a + 1) 1 ≡ 1
  field1 = field_past 1 a (rule_bytes r ++ b) 1 ∙ minor r b small h

  field2 : unsigned_at whole (length a + 2) 2 ≡ 62
  field2 = field_past 2 a (rule_bytes r ++ b) 2 ∙ size r b small h

  field4 : unsigned_at whole (length a + 4) 2 ≡ cond r.active 3 0
  field4 = field_past 2 a (rule_bytes r ++ b) 4 ∙ flags r b small h

  field6 : unsigned_at whole (length a + 6) 2 ≡ r.year
  field6 = field_past 2 a (rule_bytes r ++ b) 6 ∙ year r b small h

  field8 : unsigned_at whole (length a + 8) 14 ≡ 0
  field8 = field_past 14 a (rule_bytes r ++ b) 8 ∙ unused r b small h

  rule-there : rule_in whole (length a) ≡ as_of r.year r.active (normal_rule r)
  rule-there =
      rw (field4, field6, active-back r.active, fields-past a (rule_bytes r ++ b) 22 r.year r.active, head-past r b small h r.year r.active)
      (fields_back r.year r.active (normal_rule r) b (fits-normal r h))

  length_whole : length whole ≡ length a + (66 + length b)
  length_whole = rw (length-append, length-append, length-rule)

  rule-read : (before : Option ℕ) → check_rule before r ≡ answered tt
      → read_rule whole (length a) 1 62 before ≡ answered (record { rules = as_of r.year r.active (normal_rule r) ∷ []; agree = true; end = length a + 4 + 62 })
  unfolding read_rule
  rule-read before e =
      rw (field8, rule-there, rule-kept before r e, normal-twice r r.year r.active, field4, agree-back r.active)

  pub one-back : (before : Option ℕ) → check_rule before r ≡ answered tt
      → read_one whole (length a) before ≡ answered (record { rules = as_of r.year r.active (normal_rule r) ∷ []; agree = true; end = length a + 4 + 62 })
  unfolding read_one
  one-back before e =
      let l = length_whole in
      rw (
        le-leb (length a + 1) (length whole) (omega arith),
        field0,
        le-leb (length a + 1 + 1) (length whole) (omega arith),
        field1,
        le-leb (length a + 2 + 2) (length whole) (omega arith),
        field2,
        le-leb (length a + 4 + 62) (length whole) (omega arith),
      )
      (rule-read before e)

-- ---- and a row's bytes as the rules made normal
abbrev pub AllFit : List Rule → Type 0
AllFit [] = Unit {0}
AllFit (r ∷ row) = (r.year < 65536) × RuleFits r × AllFit row

kept-first : (r : Rule) → as_of r.year r.active (normal_rule r) ≡ normal_rule r
unfolding normal_rule
kept-first r = refl

abbrev row_kept : List Rule → ℕ → Kept
row_kept row at = record { rules = map normal_rule row; agree = true; end = at + 66 * length row }

pub rules-back : (row : List Rule) (a : List ℕ) (at : ℕ) (before : Option ℕ) → at ≡ length a → AllFit row → check_rules before row ≡ answered tt
    → read_rules (a ++ rules_bytes row) (length row) at before ≡ answered (row_kept row at)
unfolding read_rules rules_bytes check_rules normal_rule
rules-back [] a at before l h e =
    let z : at + 66 * 0 ≡ at = omega arith in
    rw z
rules-back (r ∷ row) a at before l h e =
    let p = then-answered (check_rule before r) (check_rules (Some r.year) row) tt e in
    let o = one-back r a (rules_bytes row) h.0 h.1 before p.1 in
    let m : at + 4 + 62 ≡ length (a ++ rule_bytes r) = rw (length-append, length-rule) (omega arith) in
    let i = rules-back row (a ++ rule_bytes r) (at + 4 + 62) (Some r.year) m h.2 p.2 in
    let j : read_rules (a ++ (rule_bytes r ++ rules_bytes row)) (length row) (at + 4 + 62) (Some r.year) ≡ answered (row_kept row (at + 4 + 62)) = rw append_assoc at i in
    let k : at + 4 + 62 + 66 * length row ≡ at + 66 * suc (length row) = omega arith in
    let q : read_one (a ++ (rule_bytes r ++ rules_bytes row)) at before ≡ answered (record { rules = normal_rule r ∷ []; agree = true; end = at + 4 + 62 }) =
    rw l o in
    rw (q, j, k)

-- ---- the header
module _ (name : List ℕ) (count : ℕ) (rest : List ℕ) (few : length name ≤ 520) (even : length name % 2 ≡ 0) (small : count < 65536) where
  abbrev bytes : List ℕ
  bytes = header_bytes name count ++ rest

  h0 : unsigned_at bytes 0 1 ≡ 2
  unfolding unsigned_at from_bytes to_bytes header_bytes
  h0 = refl

  h1 : unsigned_at bytes 1 1 ≡ 1
  unfolding unsigned_at from_bytes to_bytes header_bytes
  h1 = refl

  h2 : unsigned_at bytes 2 2 ≡ 6 + length name
  unfolding unsigned_at from_bytes to_bytes header_bytes
  h2 = omega arith

  h4 : unsigned_at bytes 4 2 ≡ 2
  unfolding unsigned_at from_bytes to_bytes header_bytes
  h4 = refl

  h6 : unsigned_at bytes 6 2 ≡ length name / 2
  unfolding unsigned_at from_bytes to_bytes header_bytes
  h6 = omega arith

  front8 : List ℕ
  front8 = (2 ∷ 1 ∷ []) ++ to_bytes 2 (6 + length name) ++ to_bytes 2 0x0002 ++ to_bytes 2 (length name / 2) ++ name

  length-front8 : length front8 ≡ 8 + length name
  unfolding front8
  length-front8 = simp (length-append, length-toBytes) (omega arith)

  bytes-are : bytes ≡ front8 ++ (to_bytes 2 count ++ rest)
  unfolding header_bytes front8
  bytes-are = simp append_assoc

  h8 : unsigned_at bytes (8 + 2 * (length name / 2)) 2 ≡ count
  h8 =
      let e : 8 + 2 * (length name / 2) ≡ length front8 + 0 = omega (arith, length-front8, even) in
      rw (e, bytes-are) (field_past 2 front8 (to_bytes 2 count ++ rest) 0 ∙ field-here 2 count rest small)

  length-bytes : length bytes ≡ 10 + length name + length rest
  length-bytes = rw (length-append, length_front)

  name-there : part bytes 8 (2 * (length name / 2)) ≡ name
  unfolding to_bytes header_bytes
  name-there =
      let two : 2 * (length name / 2) ≡ length name = omega (arith, even) in
      let there : drop 8 bytes ≡ name ++ (to_bytes 2 count ++ rest) = append_assoc name (to_bytes 2 count) rest in
      rw (two, there) (take_at name (to_bytes 2 count ++ rest) (length name) refl)

  pub header-back : (within 1 1024 count) ≡ true → has_lone_surrogate name ≡ false
      → read_header bytes ≡ answered (record { minor = 1; size = 6 + length name; units = length name / 2; count = count })
  unfolding read_header
  header-back c none_lone =
      let l = length-bytes in
      let n : 6 + length name ≡ 6 + 2 * (length name / 2) = omega (arith, even) in
      rw (
        le-leb 1 (length bytes) (omega arith),
        h0,
        le-leb 2 (length bytes) (omega arith),
        h1,
        le-leb 4 (length bytes) (omega arith),
        h2,
        le-leb 6 (length bytes) (omega arith),
        h4,
        le-leb 8 (length bytes) (omega arith),
        h6,
        sym (is_within 0 260 (length name / 2) (omega arith) (omega arith)),
        le-leb (8 + 2 * (length name / 2)) (length bytes) (omega (arith, even)),
        name-there,
        none_lone,
        eq-eqb (6 + length name) (6 + 2 * (length name / 2)) n,
        le-leb (8 + 2 * (length name / 2) + 2) (length bytes) (omega (arith, even)),
        h8,
        c,
        le-leb (4 + (6 + length name)) (length bytes) (omega arith),
      )

-- ---- the whole
active-normal : (row : List Rule) → active_rules (map normal_rule row) ≡ active_rules row
unfolding active_rules normal_rule
active-normal [] = refl
active-normal (r ∷ row) = ap (λ (n : ℕ). cond r.active 1 0 + n) (active-normal row)

row-known : (row : List Rule) → check_row row ≡ answered tt → ((within 1 1024 (length row)) ≡ true) × (check_rules None row ≡ answered tt) × (eqb (active_rules row) 1 ≡ true)
unfolding check_row
row-known row e =
    let p = require-answered (within 1 1024 (length row)) 6 _ tt e in
    let q = then-answered (check_rules None row) _ tt p.1 in
    (p.0, q.1, last-require (eqb (active_rules row) 1) 12 q.2)

bytes_back : (name : List ℕ) (row : List Rule) → length name ≤ 520 → length name % 2 ≡ 0 → has_lone_surrogate name ≡ false → AllFit row → check_row row ≡ answered tt
    → read_definition (definition_bytes name row) ≡ answered (record { rules = map normal_rule row; name_length = length name })
unfolding read_definition
bytes_back name row few even none_lone held e =
    let (c, k, one) = row-known row e in
    let n : length row ≤ 1024 = (within-is 1 1024 (length row) c).1 in
    let l = length-definition name row in
    let h = header-back name (length row) (rules_bytes row) few even (omega arith) c none_lone in
    let g : 4 + (6 + length name) ≡ length (header_bytes name (length row)) = rw (length_front name (length row)) (omega arith) in
    let rules = rules-back row (header_bytes name (length row)) (4 + (6 + length name)) None g held k in
    let f : 4 + (6 + length name) + 66 * length row ≡ length (header_bytes name (length row) ++ rules_bytes row) = rw (length-append, length_front, length-rules) (omega arith) in
    let two : 2 * (length name / 2) ≡ length name = omega (arith, even) in
    rw (definition-is name row, h, rules, active-normal row, one, eq-eqb (4 + (6 + length name) + 66 * length row) (length (header_bytes name (length row) ++ rules_bytes row)) f, two)

-- a definition that was written is read as its name's length and its rules made normal
pub read-written : (name : List ℕ) (row : List Rule) (room : ℕ) (s : List ℕ) → AllFit row → write_definition name row room ≡ answered s
    → read_definition s ≡ answered (record { rules = map normal_rule row; name_length = length name })
read-written name row room s held e =
    let a = accepted name row room s e in
    ap read_definition (sym a.bytes) ∙ bytes_back name row a.short a.even a.none_lone held a.check

-- and its name is handed back
pub name-written : (name : List ℕ) (row : List Rule) (room : ℕ) (s : List ℕ) → AllFit row → write_definition name row room ≡ answered s → name_of s ≡ name
unfolding name_of
name-written name row room s held e =
    let a = accepted name row room s e in
    let two : 2 * (length name / 2) ≡ length name = omega (arith, a.even) in
    let front = header_bytes name (length row) ++ rules_bytes row in
    let there : part front 8 (length name) ≡ name = ap (part front 8) (sym two) ∙ name-there name (length row) (rules_bytes row) a.short a.even (omega (arith, a.few)) in
    ap (name_in_definition s) (read-written name row room s held e) ∙ ap (λ (l : List ℕ). part l 8 (length name)) (sym a.bytes ∙ definition-is name row) ∙ there

-- ---- what is written is normal
no-other-bits : (m : Bool) → cond m 3 0 / 4 ≡ 0
no-other-bits true = refl
no-other-bits false = refl

made-normal : (r : Rule) → NormalRule (as_of r.year r.active (normal_rule r))
unfolding normal_rule
made-normal r =
    let e = normal-twice r r.year r.active in
    record {
      standard = normal-date (normal_date r.standard_date) (ap (λ (x : Rule). x.standard_date) e);
      daylight = normal-date (normal_date r.daylight_date) (ap (λ (x : Rule). x.daylight_date) e);
    }

rules-normal : (row : List Rule) (a : List ℕ) (at : ℕ) → at ≡ length a → AllFit row → NormalRules (a ++ rules_bytes row) (length row) at
unfolding rules_bytes
rules-normal [] a at l h = tt
rules-normal (r ∷ row) a at l h =
    let b = rules_bytes row in
    let m : at + 66 ≡ length (a ++ rule_bytes r) = rw (length-append, length-rule) (omega arith) in
    let i : NormalRules (a ++ (rule_bytes r ++ b)) (length row) (at + 66) = rw append_assoc at (rules-normal row (a ++ rule_bytes r) (at + 66) m h.2) in
    let z : unsigned_at (a ++ (rule_bytes r ++ b)) (at + 2) 2 ≡ 62 = rw l (field2 r a b h.0 h.1) in
    let n : after_rule (a ++ (rule_bytes r ++ b)) at ≡ at + 66 = omega (arith, z) in (
      subst (NormalRuleAt (a ++ (rule_bytes r ++ b))) (sym l)
          (record {
            major = field0 r a b h.0 h.1;
            minor = field1 r a b h.0 h.1;
            unused_bits = ap (λ (f : ℕ). f / 4) (field4 r a b h.0 h.1) ∙ no-other-bits r.active;
            dates = subst NormalRule (sym (rule-there r a b h.0 h.1)) (made-normal r);
          }),
      subst (NormalRules (a ++ (rule_bytes r ++ b)) (length row)) (sym n) i,
    )

pub written-normal : (name : List ℕ) (row : List Rule) → length name ≤ 520 → length name % 2 ≡ 0 → length row < 65536 → AllFit row → Normal (definition_bytes name row)
written-normal name row few even small fit =
    let g : 4 + (6 + length name) ≡ length (header_bytes name (length row)) = rw (length_front name (length row)) (omega arith) in
    subst Normal (sym (definition-is name row))
    (record {
      major = h0 name (length row) (rules_bytes row) few even small;
      minor = h1 name (length row) (rules_bytes row) few even small;
      rules =
          rw (
            h6 name (length row) (rules_bytes row) few even small,
            h8 name (length row) (rules_bytes row) few even small,
            h2 name (length row) (rules_bytes row) few even small,
          )
          (rules-normal row (header_bytes name (length row)) (4 + (6 + length name)) g fit);
    })
