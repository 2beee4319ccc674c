-- `little_endian::fields::read_bytes` meets its contract.
use Prim.Native.Nat.{ℕ, suc, ◌≤◌, ◌<◌, ◌-◌, ◌+◌, ◌*◌, ◌^◌}
use mathlib.Core.Path.{◌≡◌, refl, ◌∙◌}
use mathlib.Core.List.{List, reverse}
use native.Mathlib.Omega.{arith}
use native.Mathlib.Nat.{pow-le-pow_right}
use lib.Dec.{lit<}
use lib.ListN.{length, get_or, take, drop, length-take, length-drop}
use Rattle.std.proofs.lemmas.List.{length-reverse, length_push, get_or-reverse, get_or-take, get_or-drop, get_or_default}
use Rattle.std.proofs.lemmas.Iterator.Adapters.{YieldsList-from_rev_slice}
use Rattle.std.proofs.lemmas.Iterator.Consumers.{YieldsList-turn, YieldsList-end}
use Rattle.little_endian.specs.Bytes.{from_bytes, AllBytes}
use Rattle.little_endian.specs.Fields.{unsigned_at}
use Rattle.little_endian.proofs.FieldLaws.{field_step, field_lt}
use Rattle.little_endian.proofs.fields.read_bytes.Invariants.{Reading}
use Rattle.little_endian.proofs.fields.read_bytes.Goals as goal

reading_begins : (s : List ℕ) (at w : ℕ) → Reading s at w 0 0
unfolding unsigned_at from_bytes
reading_begins s at w = record { within = omega arith; read = refl }

module _ {s : List ℕ} {at w : ℕ} where
  reading-next : {v n b : ℕ} → Reading s at w v n → at + w ≤ length s → n < w → b ≡ get_or s (at + (w - suc n)) 0 → Reading s at w (b + v * 256) (n + 1)
  reading-next {v} {n} {b} h there p e =
      let f : n + 1 ≡ suc n = omega arith in
      let g : at + (w - n) ≡ suc (at + (w - suc n)) = omega arith in
      record {
        within = omega arith;
        read = rw (f, field_step s (at + (w - suc n)) n (omega arith), ← e, ← g, ← h.read) (omega arith);
      }

  reading-ends : {v n : ℕ} → Reading s at w v n → n ≡ w → v ≡ unsigned_at s at w
  reading-ends {v} {n} h p =
      let e : at + (w - w) ≡ at = omega arith in
      rw (p, e) at h.read

  -- what was read so far leaves room for one byte more
  room : {v n : ℕ} → Reading s at w v n → AllBytes s → w ≤ 8 → at + w ≤ length s → n < w → v < 256 ^ 7
  room {v} {n} h b k there p =
      omega (arith, h.read, field_lt n s b (at + (w - n)) (omega arith), pow-le-pow_right {n = 256} (lit< tt) {i = n} {j = 7} (omega arith))

-- ---- the n-th byte from the end
part_of : List ℕ → ℕ → ℕ → List ℕ
part_of s at w = take (at + w - at) (drop at s)

turn : (s : List ℕ) (at w n b : ℕ) → at + w ≤ length s → (n < length (reverse (part_of s at w))) × (b ≡ get_or (reverse (part_of s at w)) n b) → (n < w) × (b ≡ get_or s (at + (w - suc n)) 0)
unfolding part_of
turn s at w n b h t =
    let l : length (take (at + w - at) (drop at s)) ≡ w = simp (length-take, length-drop) (omega arith) in
    let p : n < length (take (at + w - at) (drop at s)) = rw length-reverse at t.0 in
    let e : length (take (at + w - at) (drop at s)) - 1 - n ≡ w - suc n = omega arith in
    let q : w - suc n < at + w - at = omega arith in
    (omega arith, t.1 ∙ get_or-reverse _ n b p ∙ rw (e, get_or-take, get_or-drop) (get_or_default s (at + (w - suc n)) b 0 (omega arith)))

pub loop-byte-init : goal.loop-byte-init
loop-byte-init c = (reading_begins _ _ _, tt, tt)

here : (c : goal.After-from) → (length c.loop-byte.yielded < c.args.width) × (c.from.result ≡ get_or c.args.s.now (c.args.at + (c.args.width - suc (length c.loop-byte.yielded))) 0)
unfolding part_of
here c =
    let a = c.args in
    let l = c.loop-byte in
    let t = turn a.s.now a.at a.width (length l.yielded) c.in-Some.byte.now (omega arith)
    (YieldsList-turn (YieldsList-from_rev_slice (part_of a.s.now a.at a.width) cc) l.yielded _ l.yielded_by _ _ c.in-Some.byte c.in-Some.is c.next.ensures.steps) in
    (t.0, c.from.ensures ∙ t.1)

small : (c : goal.After-from) → c.loop-byte.v < 256 ^ 7
small c = room c.loop-byte.invariant.0 (λ j. (c.type_inv.s j).fits) c.requires.0 c.requires.1 (here c).0

pub overflow_mul-v : goal.overflow_mul-v
overflow_mul-v c = omega (arith, small c)

pub overflow_add-v : goal.overflow_add-v
overflow_add-v c = omega (arith, small c, (here c).1, (c.type_inv.s (c.args.at + (c.args.width - suc (length c.loop-byte.yielded)))).fits)

pub loop-byte-preserved : goal.loop-byte-preserved
loop-byte-preserved c = rw length_push (reading-next c.loop-byte.invariant.0 c.requires.1 (here c).0 (here c).1, tt, tt)

pub returns : goal.returns
unfolding part_of
returns c =
    let a = c.args in
    let l = c.loop-byte in
    let all = YieldsList-end (YieldsList-from_rev_slice (part_of a.s.now a.at a.width) cc) l.yielded _ l.yielded_by _ _ c.in-None.is c.next.ensures.steps in
    let n : length l.yielded ≡ a.width = all.1 ∙ simp (length-reverse, length-take, length-drop) (omega arith) in
    let e = reading-ends l.invariant.0 n in
    (e, rw e (field_lt a.width a.s.now (λ j. (c.type_inv.s j).fits) a.at (omega arith)))
