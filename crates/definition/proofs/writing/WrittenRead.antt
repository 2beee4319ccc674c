-- A normal definition that is read is written byte for byte.
use Prim.Native.Nat.{ℕ, zero, suc, ◌+◌, ◌*◌, ◌/◌, ◌%◌, ◌≤◌}
use mathlib.Core.Path.{◌≡◌, refl, sym, ap, subst, ◌∙◌}
use mathlib.Core.Bool.{Bool, true, false, cond, not, ◌&&◌, ◌||◌}
use mathlib.Core.List.{List, [], ◌∷◌, ◌++◌, append_assoc}
use native.Mathlib.Omega.{arith}
use lib.ListN.{length, replicate, drop, length-drop}
use lib.Seq.{length-take-le, take_all}
use lib.Dec.{leb, eqb}
use borrow.Author.Tests.{le-leb, eq-eqb, eqb-true, leb-true}
use Rattle.std.specs.Prelude.{Option, None}
use Rattle.refusal.specs.Outcome.{answered}
use Rattle.refusal.proofs.Tests.{both}
use Rattle.refusal.proofs.OutcomeLaws.{bind-answered, then-answered, require-answered, answered-is}
use Rattle.little_endian.specs.Bytes.{to_bytes, AllBytes}
use Rattle.little_endian.specs.Fields.{part, unsigned_at, next_field}
use Rattle.little_endian.proofs.FieldLaws.{field-split, bytes-field}
use Rattle.utf16.specs.Surrogates.{has_lone_surrogate}
use Rattle.calendar.proofs.ranges.Within.{is_within}
use Rattle.zone.specs.declared.rules.Rule.{Rule}
use Rattle.zone.specs.Rules.{check_rule, normal_rule}
use Rattle.zone.proofs.rules.Normal.{rule-normal}
use Rattle.rows.specs.Row.{check_rules, check_row, active_rules}
use Rattle.records.specs.Layout.{rule_at, rule_field_bytes}
use Rattle.records.proofs.registry.RoundTrip.{grow, date-bytes, bias-bytes}
use Rattle.definition.specs.declared.header.Header.{Header}
use Rattle.definition.specs.Definition.{Kept, Definition, size_ok, is_active, bits_agree, rule_in, read_rule, read_one, year_after, joined, read_rules, read_header, read_definition, name_in_definition, name_of, rule_bytes, rules_bytes, definition_bytes, check_name, write_definition}
use Rattle.definition.specs.Places.{after_rule}
use Rattle.definition.specs.Normal.{NormalRuleAt, NormalRules, Normal}
use Rattle.definition.proofs.walk.Known.{field_told, headed}

-- a size at minor 1 is exact
exact-size : (minor stated size : ℕ) → minor ≡ 1 → size_ok minor stated size ≡ true → stated ≡ size
exact-size minor stated size m e = eqb-true stated size (rw (eq-eqb minor 1 m) at e)

then-branch : {A : Type 0} (c : Bool) (x y z : A) → c ≡ true → cond c x y ≡ z → x ≡ z
then-branch true x y z h e = e
then-branch false x y z h e = absurd (let n : ◌≡◌ {A = ℕ} 0 1 = cc in omega arith)

-- flags with no unused bits are those of the mark
flags-back : (f : ℕ) → f / 4 ≡ 0 → bits_agree f ≡ true → cond (is_active f) 3 0 ≡ f
flags-back f z e = go (eqb (f % 4) 3) (eqb (f % 4) 0) refl refl
  where
    go : (x y : Bool) → eqb (f % 4) 3 ≡ x → eqb (f % 4) 0 ≡ y → cond (is_active f) 3 0 ≡ f
    go true y p q = rw p (omega (arith, eqb-true (f % 4) 3 p))
    go false true p q = rw p (omega (arith, eqb-true (f % 4) 0 q))
    go false false p q = absurd (let z : ◌≡◌ {A = ℕ} 0 1 = cc (rw (p, q) at e) in omega arith)

rule-as : (s : List ℕ) (at : ℕ)
    → rule_bytes (rule_in s at)
    ≡ (2 ∷ 1 ∷ []) ++ (to_bytes 2 62 ++ (to_bytes 2 (cond (is_active (unsigned_at s (at + 4) 2)) 3 0) ++ (to_bytes 2 (unsigned_at s (at + 6) 2) ++ (replicate 14 0 ++ rule_field_bytes (normal_rule (rule_in s at))))))
unfolding rule_bytes rule_at
rule-as s at = simp append_assoc

definition-as : (name : List ℕ) (row : List Rule)
    → definition_bytes name row
    ≡ (2 ∷ 1 ∷ []) ++ (to_bytes 2 (6 + length name) ++ (to_bytes 2 2 ++ (to_bytes 2 (length name / 2) ++ (name ++ (to_bytes 2 (length row) ++ rules_bytes row)))))
unfolding definition_bytes
definition-as name row = simp append_assoc

module _ (s : List ℕ) (b : AllBytes s) where
  -- ---- pieces, each a part of the bytes
  join : (at mid x y : ℕ) {a rest : List ℕ} → mid ≡ at + x → a ≡ part s at x → rest ≡ part s mid y → a ++ rest ≡ part s at (x + y)
  join at mid x y {rest = rest} e p q = ap (λ (l : List ℕ). l ++ rest) p ∙ grow s at mid x y e q

  piece : (w at n : ℕ) → at + w ≤ length s → n ≡ unsigned_at s at w → to_bytes w n ≡ part s at w
  piece w at n h e = ap (to_bytes w) e ∙ bytes-field w s b at h

  two-one : (at : ℕ) → at + 2 ≤ length s → unsigned_at s at 1 ≡ 2 → unsigned_at s (at + 1) 1 ≡ 1 → 2 ∷ 1 ∷ [] ≡ part s at 2
  unfolding to_bytes
  two-one at h p q = piece 2 at 258 h (sym (field-split s at 1 1 h ∙ rw (p, q)))

  zeros : (at : ℕ) → at + 14 ≤ length s → unsigned_at s at 14 ≡ 0 → replicate 14 0 ≡ part s at 14
  unfolding to_bytes
  zeros at h e = piece 14 at 0 h (sym e)

  fields-bytes : (at y : ℕ) (mark : Bool) → at + 44 ≤ length s → rule_field_bytes (rule_at s at y mark) ≡ part s at 44
  unfolding rule_field_bytes rule_at
  fields-bytes at y mark h =
      rw (
        bias-bytes s b at (omega arith),
        bias-bytes s b (at + 4) (omega arith),
        bias-bytes s b (at + 8) (omega arith),
        date-bytes s b (at + 12) (omega arith),
        date-bytes s b (at + 28) (omega arith),
      )
      (simp append_assoc
      (grow s at (at + 4) 4 40 refl
      (grow s (at + 4) (at + 8) 4 36 (omega arith)
      (grow s (at + 8) (at + 12) 4 32 (omega arith)
      (grow s (at + 12) (at + 28) 16 16 (omega arith) refl)))))

  -- ---- one rule
  rule-bytes : (at : ℕ) → at + 66 ≤ length s → NormalRuleAt s at → unsigned_at s (at + 2) 2 ≡ 62 → unsigned_at s (at + 8) 14 ≡ 0 → bits_agree (unsigned_at s (at + 4) 2) ≡ true
      → rule_bytes (rule_in s at) ≡ part s at 66
  rule-bytes at h n size x agree =
      rule-as s at
      ∙ join at (at + 2) 2 64 refl (two-one at (omega arith) n.major n.minor)
      (join (at + 2) (at + 4) 2 62 (omega arith) (piece 2 (at + 2) 62 (omega arith) (sym size))
      (join (at + 4) (at + 6) 2 60 (omega arith) (piece 2 (at + 4) _ (omega arith) (flags-back (unsigned_at s (at + 4) 2) n.unused_bits agree))
      (join (at + 6) (at + 8) 2 58 (omega arith) (piece 2 (at + 6) _ (omega arith) refl)
      (join (at + 8) (at + 22) 14 44 (omega arith) (zeros (at + 8) (omega arith) x)
      (ap rule_field_bytes (rule-normal (rule_in s at) n.dates) ∙ fields-bytes (at + 22) _ _ (omega arith))))))

  record OneNormal (at : ℕ) (before : Option ℕ) (k : Kept) : Type 0 where
    rules : k.rules ≡ rule_in s at ∷ []
    end : k.end ≡ after_rule s at
    after : after_rule s at ≡ at + 66
    check : check_rule before (rule_in s at) ≡ answered tt
    bytes : rule_bytes (rule_in s at) ≡ part s at 66

  kept-normal : (at minor size : ℕ) (before : Option ℕ) (k : Kept) → minor ≡ unsigned_at s (at + 1) 1 → size ≡ unsigned_at s (at + 2) 2 → at + 4 + size ≤ length s → NormalRuleAt s at
      → read_rule s at minor size before ≡ answered k → k.agree ≡ true → OneNormal at before k
  unfolding read_rule
  kept-normal at minor size before k em es h n e agree =
      let (t, e1) = require-answered (size_ok minor size 62) 2 _ k e in
      let (x, e2) = require-answered (eqb (unsigned_at s (at + 8) 14) 0) 7 _ k e1 in
      let (u, c, e3) = then-answered (check_rule before (rule_in s at)) _ k e2 in
      let ek = answered-is (record { rules = normal_rule (rule_in s at) ∷ []; agree = bits_agree (unsigned_at s (at + 4) 2); end = at + 4 + size }) k e3 in
      let z : size ≡ 62 = exact-size minor size 62 (em ∙ n.minor) t in
      record {
        rules = sym (ap (λ (m : Kept). m.rules) ek) ∙ ap (λ (r : Rule). r ∷ []) (rule-normal (rule_in s at) n.dates);
        end = sym (ap (λ (m : Kept). m.end) ek) ∙ ap (λ (m : ℕ). at + 4 + m) es;
        after = omega (arith, es, z);
        check = c;
        bytes = rule-bytes at (omega arith) n (sym es ∙ z) (eqb-true (unsigned_at s (at + 8) 14) 0 x) (ap (λ (m : Kept). m.agree) ek ∙ agree);
      }

  one-normal : (at : ℕ) (before : Option ℕ) (k : Kept) → read_one s at before ≡ answered k → NormalRuleAt s at → k.agree ≡ true → OneNormal at before k
  unfolding read_one
  one-normal at before k e n agree =
      let (major, p, e1) = bind-answered (next_field s at 1) _ k e in
      let (minor, q, e2) = bind-answered (next_field s (at + 1) 1) _ k e1 in
      let (size, r, e3) = bind-answered (next_field s (at + 2) 2) _ k e2 in
      let (h, e4) = require-answered (leb (at + 4 + size) (length s)) 1 _ k e3 in
      let m : eqb major 2 ≡ true = eq-eqb major 2 (field_told s at 1 major p ∙ n.major) in
      kept-normal at minor size before k (field_told s (at + 1) 1 minor q) (field_told s (at + 2) 2 size r) (leb-true (at + 4 + size) (length s) h) n (then-branch (eqb major 2) _ _ (answered k) m e4) agree

  -- ---- so many rules from a place on
  record AllNormal (count at : ℕ) (before : Option ℕ) (k : Kept) : Type 0 where
    bytes : rules_bytes k.rules ≡ part s at (66 * count)
    end : k.end ≡ at + 66 * count
    number : length k.rules ≡ count
    check : check_rules before k.rules ≡ answered tt

  all-normal : (count at : ℕ) (before : Option ℕ) (k : Kept) → read_rules s count at before ≡ answered k → NormalRules s count at → k.agree ≡ true → AllNormal count at before k
  unfolding read_rules rules_bytes check_rules
  all-normal zero at before k e n agree =
      subst (AllNormal 0 at before) (answered-is (record { rules = []; agree = true; end = at }) k e) (record { bytes = refl; end = omega arith; number = refl; check = refl })
  all-normal (suc more) at before k e n agree =
      let (one, p, e1) = bind-answered (read_one s at before) _ k e in
      let (rest, q, e2) = bind-answered (read_rules s more one.end (year_after before one.rules)) _ k e1 in
      let ek = answered-is (joined one rest) k e2 in
      let (first, later) = both one.agree rest.agree (ap (λ (m : Kept). m.agree) ek ∙ agree) in
      let o = one-normal at before one p n.0 first in
      let i = all-normal more one.end (year_after before one.rules) rest q (subst (NormalRules s more) (sym o.end) n.1) later in
      let there : one.end ≡ at + 66 = o.end ∙ o.after in
      let year = subst (λ (l : List Rule). check_rules (year_after before l) rest.rules ≡ answered tt) o.rules i.check in
      subst (AllNormal (suc more) at before) ek
      (record {
        bytes =
            ap (λ (l : List Rule). rules_bytes (l ++ rest.rules)) o.rules
            ∙ join at (at + 66) 66 (66 * more) refl o.bytes (i.bytes ∙ ap (λ (m : ℕ). part s m (66 * more)) there)
            ∙ ap (part s at) (more-is more);
        end = i.end ∙ ap (λ (m : ℕ). m + 66 * more) there ∙ next-is at more;
        number = ap (λ (l : List Rule). length (l ++ rest.rules)) o.rules ∙ ap suc i.number;
        check = ap (λ (l : List Rule). check_rules before (l ++ rest.rules)) o.rules ∙ rw o.check year;
      })
    where
      more-is : (m : ℕ) → 66 + 66 * m ≡ 66 * suc m
      more-is m = omega arith

      next-is : (x m : ℕ) → x + 66 + 66 * m ≡ x + 66 * suc m
      next-is x m = omega arith

-- ---- the whole
written : (s name : List ℕ) (row : List Rule) (room : ℕ) → length name % 2 ≡ 0 → length name / 2 ≤ 260 → has_lone_surrogate name ≡ false → check_row row ≡ answered tt → definition_bytes name row ≡ s → length s ≤ room
    → write_definition name row room ≡ answered s
unfolding write_definition check_name
written s name row room even few none_lone c e l =
    rw (eq-eqb (length name % 2) 0 even, sym (is_within 0 260 (length name / 2) (omega arith) (omega arith)), none_lone, c, e, le-leb (length s) room l)

row-passes : (row : List Rule) (count : ℕ) → length row ≡ count → 1 ≤ count → count ≤ 1024 → check_rules None row ≡ answered tt → eqb (active_rules row) 1 ≡ true → check_row row ≡ answered tt
unfolding check_row
row-passes row count l few most c a = rw (sym (is_within 1 1024 (length row) (omega arith) (omega arith)), c, a)

-- a header of minor 1 ends where the first rule starts
record Whole (s : List ℕ) (h : Header) (k : Kept) : Type 0 where
  bytes : definition_bytes (part s 8 (2 * h.units)) k.rules ≡ s
  length-name : length (part s 8 (2 * h.units)) ≡ 2 * h.units
  check : check_row k.rules ≡ answered tt

whole : (s : List ℕ) → AllBytes s → Normal s → (h : Header) → read_header s ≡ answered h → (k : Kept) → read_rules s h.count (4 + h.size) None ≡ answered k
    → k.agree ≡ true → eqb (active_rules k.rules) 1 ≡ true → k.end ≡ length s → Whole s h k
whole s b n h eh k ek agree active end =
    let g = headed s h eh in
    let size : h.size ≡ 6 + 2 * h.units = exact-size h.minor h.size (6 + 2 * h.units) (g.minor ∙ n.minor) g.exact in
    let rules₁ = subst (λ (u : ℕ). NormalRules s (unsigned_at s (8 + 2 * u) 2) (4 + unsigned_at s 2 2)) (sym g.units) n.rules in
    let rules₂ = subst (λ (c : ℕ). NormalRules s c (4 + unsigned_at s 2 2)) (sym g.count) rules₁ in
    let rules₃ = subst (λ (z : ℕ). NormalRules s h.count (4 + z)) (sym g.size) rules₂ in
    let a = all-normal s b h.count (4 + h.size) None k ek rules₃ agree in
    let name : length (part s 8 (2 * h.units)) ≡ 2 * h.units = length-take-le (2 * h.units) (drop 8 s) (rw (length-drop 8 s) (omega (arith, g.name))) in
    let start : 4 + h.size ≡ 8 + 2 * h.units + 2 = omega (arith, size) in
    let parts =
    join s b 0 2 2 (2 + (2 + (2 + (2 * h.units + (2 + 66 * h.count))))) refl (two-one s b 0 (omega (arith, g.name)) g.major n.minor)
    (join s b 2 4 2 (2 + (2 + (2 * h.units + (2 + 66 * h.count)))) refl (piece s b 2 2 (6 + length (part s 8 (2 * h.units))) (omega (arith, g.name)) (omega (arith, name, size, g.size)))
    (join s b 4 6 2 (2 + (2 * h.units + (2 + 66 * h.count))) refl (piece s b 2 4 2 (omega (arith, g.name)) (sym g.flags))
    (join s b 6 8 2 (2 * h.units + (2 + 66 * h.count)) refl (piece s b 2 6 (length (part s 8 (2 * h.units)) / 2) (omega (arith, g.name)) (omega (arith, name, g.units)))
    (join s b 8 (8 + 2 * h.units) (2 * h.units) (2 + 66 * h.count) refl refl
    (join s b (8 + 2 * h.units) (8 + 2 * h.units + 2) 2 (66 * h.count) refl (piece s b 2 (8 + 2 * h.units) (length k.rules) g.behind (a.number ∙ g.count))
    (a.bytes ∙ ap (λ (m : ℕ). part s m (66 * h.count)) start)))))) in
    record {
      bytes =
          definition-as (part s 8 (2 * h.units)) k.rules ∙ parts
          ∙ take_all (2 + (2 + (2 + (2 + (2 * h.units + (2 + 66 * h.count)))))) s (omega (arith, a.end, end, size));
      length-name = name;
      check = row-passes k.rules h.count a.number g.some_rules g.most a.check active;
    }

-- a definition that reading accepts, and that is normal, is written byte for byte
pub written_read : (s : List ℕ) (d : Definition) (room : ℕ) → AllBytes s → read_definition s ≡ answered d → Normal s → length s ≤ room
    → write_definition (name_of s) d.rules room ≡ answered s
unfolding read_definition name_of
written_read s d room b e n l =
    let (h, eh, e1) = bind-answered (read_header s) _ d e in
    let (k, ek, e2) = bind-answered (read_rules s h.count (4 + h.size) None) _ d e1 in
    let (a, e3) = require-answered (k.agree && eqb (active_rules k.rules) 1) 12 _ d e2 in
    let (c, e4) = require-answered (not (eqb h.minor 1) || eqb k.end (length s)) 2 _ d e3 in
    let ed = answered-is (record { rules = k.rules; name_length = 2 * h.units }) d e4 in
    let (agree, active) = both k.agree (eqb (active_rules k.rules) 1) a in
    let w = whole s b n h eh k ek agree active (ends h k ((headed s h eh).minor ∙ n.minor) c) in
    let name : name_of s ≡ part s 8 (2 * h.units) = ap (name_in_definition s) e ∙ ap (λ (m : Definition). part s 8 m.name_length) (sym ed) in
    subst (λ (m : Definition). write_definition (name_of s) m.rules room ≡ answered s) ed
    (ap (λ (m : List ℕ). write_definition m k.rules room) name
    ∙ written s (part s 8 (2 * h.units)) k.rules room (omega (arith, w.length-name)) (omega (arith, w.length-name, (headed s h eh).few)) (headed s h eh).none_lone w.check w.bytes l)
  where
    ends : (h : Header) (k : Kept) → h.minor ≡ 1 → (not (eqb h.minor 1) || eqb k.end (length s)) ≡ true → k.end ≡ length s
    ends h k m c = eqb-true k.end (length s) (rw (eq-eqb h.minor 1 m) at c)
