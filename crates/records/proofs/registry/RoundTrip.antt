-- The registry record there and back: what was written is read as the rule made normal, and a normal record that is read is written byte for byte.
use Prim.Native.Nat.{ℕ, ◌+◌, ◌-◌, ◌<◌, ◌≤◌, ◌^◌}
use mathlib.Core.Path.{◌≡◌, refl, sym, ap, ◌∙◌}
use mathlib.Core.List.{List, ◌++◌, [], append_assoc, append-nil}
use mathlib.Core.Bool.{Bool, true}
use native.Mathlib.Omega.{arith}
use native.Mathlib.Nat.{add_assoc}
use lib.IntN.{ℤ}
use lib.ListN.{length, take, drop}
use lib.Seq.{take-add, drop-drop, take_all}
use lib.Dec.{leb, eqb}
use mir.Syntax.{w32}
use mir.Val.{SFits}
use borrow.Author.Tests.{eqb-true, leb-true, le-leb}
use Rattle.std.specs.Prelude.{None}
use Rattle.refusal.specs.Outcome.{answered}
use Rattle.refusal.specs.Lent.{fitting}
use Rattle.refusal.proofs.OutcomeLaws.{then-answered, require-answered, answered-is}
use Rattle.little_endian.specs.Bytes.{to_bytes}
use Rattle.little_endian.specs.TwosComplement.{signed, unsigned}
use Rattle.little_endian.specs.Fields.{part, unsigned_at, signed_at}
use Rattle.little_endian.specs.Bytes.{AllBytes}
use Rattle.little_endian.proofs.FieldLaws.{field_lt, field_past, field_skip, field-here, bytes-field}
use Rattle.little_endian.proofs.ByteLaws.{length-toBytes}
use Rattle.little_endian.proofs.TwosComplementLaws.{signed_back, unsigned_back, unsigned-lt}
use Rattle.zone.specs.declared.dates.SystemTime.{SystemTime}
use Rattle.zone.specs.declared.rules.Rule.{Rule}
use Rattle.zone.specs.Rules.{check_dates, check_rule, NormalRule, normal_rule, as_of}
use Rattle.zone.proofs.rules.Normal.{DateFits, RuleFits, check-kept, fits-normal, normal-twice, dates-of-rule, rule-normal}
use Rattle.records.specs.Layout.{date_at, date_bytes, rule_at, bias_bytes, rule_field_bytes}
use Rattle.records.specs.Registry.{read_registry, write_registry}
use Rattle.records.proofs.layout.PutLaws.{length-date, length_fields}

pub signed-back4 : (z : ℤ) → SFits w32 z → signed 4 (unsigned 4 z) ≡ z
signed-back4 = signed_back w32

pub unsigned-lt4 : (z : ℤ) → SFits w32 z → unsigned 4 z < 256 ^ 4
unsigned-lt4 = unsigned-lt w32

pub date-back : (t : SystemTime) (b : List ℕ) → DateFits t → date_at (date_bytes t ++ b) 0 ≡ t
unfolding date_at date_bytes
date-back t b h = simp (append_assoc, field_skip, field-here, h.year, h.month, h.weekday, h.day, h.hour, h.minute, h.second, h.millisecond)

pub date-last : (t : SystemTime) → DateFits t → date_at (date_bytes t) 0 ≡ t
date-last t h = rw (append-nil (date_bytes t)) at (date-back t [] h)

-- a date is behind n bytes
date-past : (a b : List ℕ) (at : ℕ) → date_at (a ++ b) (length a + at) ≡ date_at b at
unfolding date_at
date-past a b at = simp (add_assoc, field_past)

pub date-behind : (n : ℕ) (a b : List ℕ) (at : ℕ) → length a ≡ n → leb n at ≡ true → date_at (a ++ b) at ≡ date_at b (at - n)
date-behind n a b at l h =
    let e : at ≡ length a + (at - n) = omega (arith, leb-true n at h) in
    ap (date_at (a ++ b)) e ∙ date-past a b (at - n)

pub date-skip : (k x : ℕ) (b : List ℕ) (at : ℕ) → leb k at ≡ true → date_at (to_bytes k x ++ b) at ≡ date_at b (at - k)
date-skip k x b at h = date-behind k (to_bytes k x) b at (length-toBytes k x) h

pub date-next : (t : SystemTime) (b : List ℕ) (at : ℕ) → leb 16 at ≡ true → date_at (date_bytes t ++ b) at ≡ date_at b (at - 16)
date-next t b at h = date-behind 16 (date_bytes t) b at (length-date t) h

pub rule-back : (y : ℕ) (mark : Bool) (r : Rule) → RuleFits r → rule_at (rule_field_bytes r) 0 y mark ≡ as_of y mark r
unfolding rule_at rule_field_bytes
rule-back y mark r h =
    simp (
      append_assoc,
      field_skip,
      field-here,
      unsigned-lt4 r.bias h.bias,
      unsigned-lt4 r.standard_bias h.standard-bias,
      unsigned-lt4 r.daylight_bias h.daylight-bias,
      signed-back4,
      h.bias,
      h.standard-bias,
      h.daylight-bias,
      date-skip,
      date-next,
      date-back,
      date-last,
      h.standard,
      h.daylight,
    )

-- the bytes of a sound rule are read as the rule made normal: active, of year 0
bytes_read : (r : Rule) → RuleFits r → check_rule None r ≡ answered tt → read_registry (rule_field_bytes (normal_rule r)) ≡ answered (as_of 0 true (normal_rule r))
unfolding read_registry
bytes_read r h e =
    rw (
      length_fields (normal_rule r),
      rule-back 0 true (normal_rule r) (fits-normal r h),
      check-kept r 0 true (dates-of-rule r e),
      normal-twice r 0 true,
    )

-- THE LAW: what was written is read as the rule made normal, active and of year 0
pub read-written : (r : Rule) (room : ℕ) (b : List ℕ) → RuleFits r → write_registry r room ≡ answered b → read_registry b ≡ answered (as_of 0 true (normal_rule r))
unfolding write_registry
read-written r room b h e =
    let p = then-answered (check_rule None r) (fitting (rule_field_bytes (normal_rule r)) room) b e in
    let q = require-answered (leb (length (rule_field_bytes (normal_rule r))) room) 13 _ b p.2 in
    rw (sym (answered-is _ b q.1)) (bytes_read r h p.1)

-- ---- and back: n bytes of s, and those after them
pub grow : (s : List ℕ) (x y a b : ℕ) {rest : List ℕ} → y ≡ x + a → rest ≡ take b (drop y s) → take a (drop x s) ++ rest ≡ take (a + b) (drop x s)
grow s x y a b e r =
    let f : drop a (drop x s) ≡ drop y s = drop-drop a x s ∙ ap (λ (k : ℕ). drop k s) (sym e) in
    rw (r, take-add a b (drop x s), f)

pub date-bytes : (s : List ℕ) → AllBytes s → (at : ℕ) → at + 16 ≤ length s → date_bytes (date_at s at) ≡ part s at 16
unfolding date_at date_bytes
date-bytes s b at h =
    rw (
      bytes-field 2 s b at (omega arith),
      bytes-field 2 s b (at + 2) (omega arith),
      bytes-field 2 s b (at + 4) (omega arith),
      bytes-field 2 s b (at + 6) (omega arith),
      bytes-field 2 s b (at + 8) (omega arith),
      bytes-field 2 s b (at + 10) (omega arith),
      bytes-field 2 s b (at + 12) (omega arith),
      bytes-field 2 s b (at + 14) (omega arith),
    )
    (simp append_assoc
    (grow s at (at + 2) 2 14 refl
    (grow s (at + 2) (at + 4) 2 12 (omega arith)
    (grow s (at + 4) (at + 6) 2 10 (omega arith)
    (grow s (at + 6) (at + 8) 2 8 (omega arith)
    (grow s (at + 8) (at + 10) 2 6 (omega arith)
    (grow s (at + 10) (at + 12) 2 4 (omega arith)
    (grow s (at + 12) (at + 14) 2 2 (omega arith) refl))))))))

pub bias-bytes : (s : List ℕ) → AllBytes s → (at : ℕ) → at + 4 ≤ length s → bias_bytes (signed_at s at 4) ≡ part s at 4
bias-bytes s b at h = rw (unsigned_back w32 (unsigned_at s at 4) (field_lt 4 s b at h)) (bytes-field 4 s b at h)

bytes_back : (s : List ℕ) → AllBytes s → length s ≡ 44 → rule_field_bytes (rule_at s 0 0 true) ≡ s
unfolding rule_field_bytes rule_at
bytes_back s b h =
    rw (
      bias-bytes s b 0 (omega arith),
      bias-bytes s b 4 (omega arith),
      bias-bytes s b 8 (omega arith),
      date-bytes s b 12 (omega arith),
      date-bytes s b 28 (omega arith),
    )
    (simp append_assoc
    (grow s 0 4 4 40 refl
    (grow s 4 8 4 36 refl
    (grow s 8 12 4 32 refl
    (grow s 12 28 16 16 refl refl)))
    ∙ take_all 44 s (omega arith)))

-- THE LAW: a normal record that is read is written byte for byte
pub written_read : (s : List ℕ) (r : Rule) (room : ℕ) → AllBytes s → read_registry s ≡ answered r → NormalRule (rule_at s 0 0 true) → 44 ≤ room → write_registry r room ≡ answered s
unfolding read_registry write_registry check_rule rule_at
written_read s r room b e normal h =
    let n = rule-normal (rule_at s 0 0 true) normal in
    let p = require-answered (eqb (length s) 44) 2 _ r e in
    let l = eqb-true (length s) 44 p.0 in
    let q = then-answered (check_dates (rule_at s 0 0 true)) (answered (normal_rule (rule_at s 0 0 true))) r p.1 in
    let f : r ≡ rule_at s 0 0 true = sym (answered-is _ r q.2) ∙ n in
    let g : length s ≤ room = omega arith in
    rw (f, q.1, n, bytes_back s b l, le-leb (length s) room g)
