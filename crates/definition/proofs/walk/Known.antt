-- What a header or a rule that passed its checks is known to be.
use Prim.Native.Nat.{ℕ, ◌+◌, ◌*◌, ◌≤◌}
use mathlib.Core.Path.{◌≡◌, sym, ◌∙◌, subst}
use mathlib.Core.Bool.{Bool, true, false, cond, not}
use mathlib.Core.List.{List, []}
use native.Mathlib.Omega.{arith}
use lib.ListN.{length}
use lib.Dec.{leb, eqb}
use borrow.Author.Tests.{eqb-true, leb-true, not-true}
use Rattle.std.specs.Prelude.{Option}
use Rattle.refusal.specs.Outcome.{answered}
use Rattle.refusal.proofs.OutcomeLaws.{bind-answered, then-answered, require-answered, answered-is}
use Rattle.little_endian.specs.Fields.{part, unsigned_at, next_field}
use Rattle.utf16.specs.Surrogates.{has_lone_surrogate}
use Rattle.zone.specs.Rules.{check_rule, normal_rule}
use Rattle.rows.specs.Row.{active_rules}
use Rattle.calendar.specs.Ranges.{within}
use Rattle.calendar.proofs.ranges.Within.{within-is}
use Rattle.definition.specs.declared.walk.Walk.{Walk}
use Rattle.definition.specs.declared.header.Header.{Header}
use Rattle.definition.specs.Definition.{Kept, size_ok, rule_in, read_rule, read_one, read_header}
use Rattle.definition.specs.Steps.{walk_over, walk_one}

-- ---- one rule
pub record InBytes (s : List ℕ) (k : Kept) : Type 0 where
  pub end : k.end ≤ length s
  pub one : length k.rules ≤ 1
  pub active : active_rules k.rules ≤ 1

one-active : (b : Bool) → cond b 1 0 + 0 ≤ 1
one-active true = omega arith
one-active false = omega arith

kept_in : (s : List ℕ) (at minor size : ℕ) (before : Option ℕ) (k : Kept) → at + 4 + size ≤ length s → read_rule s at minor size before ≡ answered k → InBytes s k
unfolding read_rule active_rules
kept_in s at minor size before k h e =
    let a = require-answered (size_ok minor size 62) 2 _ k e in
    let b = require-answered (eqb (unsigned_at s (at + 8) 14) 0) 7 _ k a.1 in
    let c = then-answered (check_rule before (rule_in s at)) _ k b.1 in
    subst (InBytes s) (answered-is _ k c.2) (record { end = h; one = omega arith; active = one-active (normal_rule (rule_in s at)).active })

pub one_in : (s : List ℕ) (at : ℕ) (before : Option ℕ) (k : Kept) → read_one s at before ≡ answered k → InBytes s k
unfolding read_one active_rules
one_in s at before k e =
    let (major, p, e1) = bind-answered (next_field s at 1) _ k e in
    let (minor, q, e2) = bind-answered (next_field s (at + 1) 1) _ k e1 in
    let (size, r, e3) = bind-answered (next_field s (at + 2) 2) _ k e2 in
    let (h, e4) = require-answered (leb (at + 4 + size) (length s)) 1 _ k e3 in
    go (eqb major 2) minor size (leb-true (at + 4 + size) (length s) h) e4
  where
    go : (b : Bool) (minor size : ℕ) → at + 4 + size ≤ length s
        → cond b (read_rule s at minor size before) (answered (record { rules = []; agree = true; end = at + 4 + size })) ≡ answered k → InBytes s k
    go true minor size h e = kept_in s at minor size before k h e
    go false minor size h e = subst (InBytes s) (answered-is _ k e) (record { end = h; one = omega arith; active = omega arith })

pub record Grown (s : List ℕ) (w n : Walk) : Type 0 where
  pub at : n.at ≤ length s
  pub kept : n.kept ≤ w.kept + 1
  pub active : n.active ≤ w.active + 1

pub grown : (s : List ℕ) (w n : Walk) → walk_one s w ≡ answered n → Grown s w n
unfolding walk_over
grown s w n e =
    let (k, f, g) = bind-answered (read_one s w.at w.before) _ n e in
    let b = one_in s w.at w.before k f in
    subst (Grown s w) (answered-is (walk_over w k) n g) (record { at = b.end; kept = omega (arith, b.one); active = omega (arith, b.active) })

-- ---- the header
-- a field that is there is the number of its bytes
pub field_told : (s : List ℕ) (at w n : ℕ) → next_field s at w ≡ answered n → n ≡ unsigned_at s at w
field_told s at w n e = sym (answered-is (unsigned_at s at w) n (require-answered (leb (at + w) (length s)) 1 _ n e).1)

pub record Headed (s : List ℕ) (h : Header) : Type 0 where
  pub major : unsigned_at s 0 1 ≡ 2
  pub minor : h.minor ≡ unsigned_at s 1 1
  pub size : h.size ≡ unsigned_at s 2 2
  pub flags : unsigned_at s 4 2 ≡ 2
  pub units : h.units ≡ unsigned_at s 6 2
  pub few : h.units ≤ 260
  pub name : 8 + 2 * h.units ≤ length s
  pub none_lone : has_lone_surrogate (part s 8 (2 * h.units)) ≡ false
  pub exact : size_ok h.minor h.size (6 + 2 * h.units) ≡ true
  pub behind : 8 + 2 * h.units + 2 ≤ length s
  pub count : h.count ≡ unsigned_at s (8 + 2 * h.units) 2
  pub some_rules : 1 ≤ h.count
  pub most : h.count ≤ 1024
  pub start : 4 + h.size ≤ length s

pub headed : (s : List ℕ) (h : Header) → read_header s ≡ answered h → Headed s h
unfolding read_header
headed s h e =
    let (major, p1, e1) = bind-answered (next_field s 0 1) _ h e in
    let (t2, e2) = require-answered (eqb major 2) 3 _ h e1 in
    let (minor, p3, e3) = bind-answered (next_field s 1 1) _ h e2 in
    let (size, p4, e4) = bind-answered (next_field s 2 2) _ h e3 in
    let (flags, p5, e5) = bind-answered (next_field s 4 2) _ h e4 in
    let (t6, e6) = require-answered (eqb flags 2) 4 _ h e5 in
    let (units, p7, e7) = bind-answered (next_field s 6 2) _ h e6 in
    let (t8, e8) = require-answered (within 0 260 units) 5 _ h e7 in
    let (t9, e9) = require-answered (leb (8 + 2 * units) (length s)) 1 _ h e8 in
    let (none-lone, es) = require-answered (not (has_lone_surrogate (part s 8 (2 * units)))) 20 _ h e9 in
    let (t10, e10) = require-answered (size_ok minor size (6 + 2 * units)) 2 _ h es in
    let (count, p11, e11) = bind-answered (next_field s (8 + 2 * units) 2) _ h e10 in
    let (t12, e12) = require-answered (within 1 1024 count) 6 _ h e11 in
    let (t13, e13) = require-answered (leb (4 + size) (length s)) 1 _ h e12 in
    subst (Headed s) (answered-is _ h e13)
    (record {
      major = sym (field_told s 0 1 major p1) ∙ eqb-true major 2 t2;
      minor = field_told s 1 1 minor p3;
      size = field_told s 2 2 size p4;
      flags = sym (field_told s 4 2 flags p5) ∙ eqb-true flags 2 t6;
      units = field_told s 6 2 units p7;
      few = (within-is 0 260 units t8).1;
      name = leb-true (8 + 2 * units) (length s) t9;
      none_lone = not-true (has_lone_surrogate (part s 8 (2 * units))) none-lone;
      exact = t10;
      behind = leb-true (8 + 2 * units + 2) (length s) (require-answered (leb (8 + 2 * units + 2) (length s)) 1 _ count p11).0;
      count = field_told s (8 + 2 * units) 2 count p11;
      some_rules = (within-is 1 1024 count t12).0;
      most = (within-is 1 1024 count t12).1;
      start = leb-true (4 + size) (length s) t13;
    })
