-- The remote desktop record there and back.
use Prim.Native.Nat.{ℕ, ◌+◌, ◌-◌, ◌<◌, ◌≤◌, ◌^◌}
use mathlib.Core.Path.{◌≡◌, refl, sym, ap, ◌∙◌}
use mathlib.Core.List.{List, ◌++◌, ◌∷◌, [], append_assoc, append-nil}
use mathlib.Core.Bool.{true}
use native.Mathlib.Omega.{arith}
use lib.ListN.{length, length-append, take}
use lib.Seq.{take_all}
use lib.Dec.{leb, eqb}
use borrow.Author.Tests.{eqb-true, leb-true, le-leb}
use Rattle.std.specs.Prelude.{None}
use Rattle.refusal.specs.Outcome.{answered}
use Rattle.refusal.specs.Lent.{fitting}
use Rattle.refusal.proofs.OutcomeLaws.{then-answered, require-answered, answered-is}
use Rattle.little_endian.specs.Bytes.{to_bytes}
use Rattle.little_endian.specs.TwosComplement.{unsigned}
use Rattle.little_endian.specs.Fields.{part, unsigned_at}
use Rattle.little_endian.specs.Bytes.{AllBytes}
use Rattle.little_endian.proofs.FieldLaws.{field_past, field_skip, field-here}
use Rattle.little_endian.proofs.ByteLaws.{length-toBytes}
use Rattle.zone.specs.declared.dates.SystemTime.{SystemTime}
use Rattle.zone.specs.declared.rules.Rule.{Rule}
use Rattle.zone.specs.Rules.{check_dates, check_rule, NormalRule, normal_rule, as_of}
use Rattle.zone.proofs.rules.Normal.{RuleFits, check-kept, fits-normal, normal-twice, dates-of-rule, rule-normal}
use Rattle.records.specs.Layout.{date_at, date_bytes, bias_bytes}
use Rattle.remote_desktop.specs.RemoteDesktop.{remote_rule, read_remote_desktop, standard_name, daylight_name, remote_bytes, write_remote_desktop}
use Rattle.records.proofs.layout.PutLaws.{length-date}
use Rattle.remote_desktop.proofs.PutLaws.{length-remote}
use Rattle.records.proofs.registry.RoundTrip.{signed-back4, unsigned-lt4, date-back, date-behind, date-skip, date-next, grow, date-bytes, bias-bytes}

field-behind : (n w : ℕ) (a b : List ℕ) (at : ℕ) → length a ≡ n → leb n at ≡ true → unsigned_at (a ++ b) at w ≡ unsigned_at b (at - n) w
field-behind n w a b at l h =
    let e : at ≡ length a + (at - n) = omega (arith, leb-true n at h) in
    ap (λ (k : ℕ). unsigned_at (a ++ b) k w) e ∙ field_past w a b (at - n)

field-last : (w x : ℕ) → x < 256 ^ w → unsigned_at (to_bytes w x) 0 w ≡ x
field-last w x h = rw (append-nil (to_bytes w x)) at (field-here w x [] h)

field-date : (w : ℕ) (t : SystemTime) (b : List ℕ) (at : ℕ) → leb 16 at ≡ true → unsigned_at (date_bytes t ++ b) at w ≡ unsigned_at b (at - 16) w
field-date w t b at h = field-behind 16 w (date_bytes t) b at (length-date t) h

-- 64 bytes that stand behind n others
named : (a b c : List ℕ) → length b ≡ 64 → part (a ++ (b ++ c)) (length a) 64 ≡ b
named [] b c l = rw l at (taken b)
  where
    taken : (b : List ℕ) → take (length b) (b ++ c) ≡ b
    taken [] = refl
    taken (x ∷ b) = ap {B = List ℕ} (λ l. x ∷ l) (taken b)
named (x ∷ a) b c l = named a b c l

module _ (r : Rule) (p q : List ℕ) (lp : length p ≡ 64) (lq : length q ≡ 64) where
  name-p : (w : ℕ) (b : List ℕ) (at : ℕ) → leb 64 at ≡ true → unsigned_at (p ++ b) at w ≡ unsigned_at b (at - 64) w
  name-p w b at h = field-behind 64 w p b at lp h

  name-q : (w : ℕ) (b : List ℕ) (at : ℕ) → leb 64 at ≡ true → unsigned_at (q ++ b) at w ≡ unsigned_at b (at - 64) w
  name-q w b at h = field-behind 64 w q b at lq h

  date-p : (b : List ℕ) (at : ℕ) → leb 64 at ≡ true → date_at (p ++ b) at ≡ date_at b (at - 64)
  date-p b at h = date-behind 64 p b at lp h

  date-q : (b : List ℕ) (at : ℕ) → leb 64 at ≡ true → date_at (q ++ b) at ≡ date_at b (at - 64)
  date-q b at h = date-behind 64 q b at lq h

  remote-back : RuleFits r → remote_rule (remote_bytes r p q) ≡ as_of 0 true r
  unfolding remote_rule remote_bytes
  remote-back h =
      simp (
        append_assoc,
        field_skip,
        field-here,
        field-last,
        field-date,
        name-p,
        name-q,
        unsigned-lt4 r.bias h.bias,
        unsigned-lt4 r.standard_bias h.standard-bias,
        unsigned-lt4 r.daylight_bias h.daylight-bias,
        signed-back4,
        h.bias,
        h.standard-bias,
        h.daylight-bias,
        date-skip,
        date-next,
        date-p,
        date-q,
        date-back,
        h.standard,
        h.daylight,
      )

  first-name : part (remote_bytes r p q) 4 64 ≡ p
  unfolding remote_bytes
  first-name =
      simp append_assoc
      (rw (length-toBytes 4 (unsigned 4 r.bias)) at
      (named (bias_bytes r.bias) p (date_bytes r.standard_date ++ (bias_bytes r.standard_bias ++ (q ++ (date_bytes r.daylight_date ++ bias_bytes r.daylight_bias)))) lp))

  front : List ℕ
  front = bias_bytes r.bias ++ (p ++ (date_bytes r.standard_date ++ bias_bytes r.standard_bias))

  length_front : length front ≡ 88
  unfolding front
  length_front = simp (length-append, length-toBytes, length-date, lp)

  second-name : part (remote_bytes r p q) 88 64 ≡ q
  unfolding remote_bytes front
  second-name =
      simp append_assoc
      (simp append_assoc at
      (rw length_front at (named front q (date_bytes r.daylight_date ++ bias_bytes r.daylight_bias) lq)))

remote-reads : (r : Rule) (p q : List ℕ) → length p ≡ 64 → length q ≡ 64 → RuleFits r → check_rule None r ≡ answered tt
    → read_remote_desktop (remote_bytes (normal_rule r) p q) ≡ answered (as_of 0 true (normal_rule r))
unfolding read_remote_desktop
remote-reads r p q lp lq h e =
    rw (
      length-remote (normal_rule r) p q lp lq,
      remote-back (normal_rule r) p q lp lq (fits-normal r h),
      check-kept r 0 true (dates-of-rule r e),
      normal-twice r 0 true,
    )

-- what was written is read as the rule made normal, active, of year 0, and the names come back as they were
-- THE LAW: what was written is read as the rule made normal, active and of year 0, with both names
pub read-written : (r : Rule) (p q : List ℕ) (room : ℕ) (b : List ℕ) → length p ≡ 64 → length q ≡ 64 → RuleFits r → write_remote_desktop r p q room ≡ answered b
    → (read_remote_desktop b ≡ answered (as_of 0 true (normal_rule r))) × (standard_name b ≡ p) × (daylight_name b ≡ q)
unfolding write_remote_desktop
read-written r p q room b lp lq h e =
    let c = then-answered (check_rule None r) (fitting (remote_bytes (normal_rule r) p q) room) b e in
    let d = require-answered (leb (length (remote_bytes (normal_rule r) p q)) room) 13 _ b c.2 in
    let read = remote-reads r p q lp lq h c.1 in
    rw (sym (answered-is _ b d.1)) (read, rw read (first-name (normal_rule r) p q lp lq), rw read (second-name (normal_rule r) p q lp lq))

-- ---- and back
bytes_back : (s : List ℕ) → AllBytes s → length s ≡ 172 → remote_bytes (remote_rule s) (part s 4 64) (part s 88 64) ≡ s
unfolding remote_bytes remote_rule
bytes_back s b h =
    rw (
      bias-bytes s b 0 (omega arith),
      date-bytes s b 68 (omega arith),
      bias-bytes s b 84 (omega arith),
      date-bytes s b 152 (omega arith),
      bias-bytes s b 168 (omega arith),
    )
    (simp append_assoc
    (grow s 0 4 4 168 refl
    (grow s 4 68 64 104 refl
    (grow s 68 84 16 88 refl
    (grow s 84 88 4 84 refl
    (grow s 88 152 64 20 refl
    (grow s 152 168 16 4 refl refl)))))
    ∙ take_all 172 s (omega arith)))

year-zero : (s : List ℕ) → (remote_rule s).year ≡ 0
unfolding remote_rule
year-zero s = refl

names-read : (s : List ℕ) (r : Rule) → read_remote_desktop s ≡ answered r → (standard_name s ≡ part s 4 64) × (daylight_name s ≡ part s 88 64)
names-read s r e = (rw e, rw e)

sound-read : (s : List ℕ) (r : Rule) → read_remote_desktop s ≡ answered r → (length s ≡ 172) × (check_dates (remote_rule s) ≡ answered tt) × (r ≡ normal_rule (remote_rule s))
unfolding read_remote_desktop
sound-read s r e =
    let p = require-answered (eqb (length s) 172) 2 _ r e in
    let q = then-answered (check_dates (remote_rule s)) (answered (normal_rule (remote_rule s))) r p.1 in
    (eqb-true (length s) 172 p.0, q.1, sym (answered-is _ r q.2))

sound-rule : (s : List ℕ) → check_dates (remote_rule s) ≡ answered tt → check_rule None (remote_rule s) ≡ answered tt
unfolding check_rule
sound-rule s e = rw (le-leb (remote_rule s).year 30827 (omega (arith, year-zero s))) e

-- a record that reading accepts, and that is normal, is written byte for byte with its two names
-- THE LAW: a normal record that is read is written byte for byte
pub written_read : (s : List ℕ) (r : Rule) (room : ℕ) → AllBytes s → read_remote_desktop s ≡ answered r → NormalRule (remote_rule s) → 172 ≤ room
    → write_remote_desktop r (standard_name s) (daylight_name s) room ≡ answered s
unfolding write_remote_desktop
written_read s r room b e normal h =
    let n = rule-normal (remote_rule s) normal in
    let (l, c, f) = sound-read s r e in
    let (x, y) = names-read s r e in
    let g : length s ≤ room = omega arith in
    rw (x, y, f ∙ n, sound-rule s c, n, bytes_back s b l, le-leb (length s) room g)
