-- `little_endian::fields::write_bytes` meets its contract.
use Prim.Native.Nat.{ℕ, suc, ◌≤◌, ◌<◌, ◌-◌, ◌+◌, ◌/◌, ◌%◌}
use mathlib.Core.Path.{◌≡◌, sym, ◌∙◌}
use mathlib.Core.List.{List, ◌++◌, append-nil}
use native.Mathlib.Omega.{arith}
use native.Mathlib.Numerals.{add-one}
use lib.ListN.{length, take, drop, set, length-take, length-drop}
use lib.Seq.{take-suc-set, take_all, append_snoc}
use Rattle.little_endian.specs.Bytes.{to_bytes}
use Rattle.little_endian.proofs.ByteLaws.{length-toBytes}
use Rattle.little_endian.proofs.StoredLaws.{stored-part}
use Rattle.little_endian.proofs.fields.write_bytes.Goals as goal

-- a byte more is stored, and one less is left
next : (s : List ℕ) (w i v : ℕ) → i < w → length s ≡ w → take (i + 1) (set s i (v % 256)) ++ to_bytes (w - (i + 1)) (v / 256) ≡ take i s ++ to_bytes (w - i) v
unfolding to_bytes
next s w i v h l =
    let e : w - i ≡ suc (w - (i + 1)) = omega arith in
    rw (e, add-one i, take-suc-set s i (v % 256) (omega arith)) (append_snoc (take i s) (v % 256) _)

all_stored : (s : List ℕ) (w i v : ℕ) → w ≤ i → length s ≡ w → take i s ++ to_bytes (w - i) v ≡ s
unfolding to_bytes
all_stored s w i v h l =
    let e : w - i ≡ 0 = omega arith in
    rw e (append-nil (take i s) ∙ take_all i s (omega arith))

-- how many bytes the part has
part_of : (s : List ℕ) (at w : ℕ) → at + w ≤ length s → length (take (at + w - at) (drop at s)) ≡ w
part_of s at w h = simp (length-take, length-drop) (omega arith)

pub loop-byte-preserved : goal.loop-byte-preserved
loop-byte-preserved c =
    let a = c.args in
    let l = c.loop-byte in
    let p = part_of a.out.now a.at a.width (omega arith) in
    next l.byte-items a.width l.byte-index l.v (omega arith) (omega arith) ∙ l.invariant

pub returns : goal.returns
returns c =
    let a = c.args in
    let l = c.loop-byte in
    let p = part_of a.out.now a.at a.width (omega arith) in
    let n = length-toBytes a.width a.x in
    let all : l.byte-items ≡ to_bytes a.width a.x = sym (all_stored l.byte-items a.width l.byte-index l.v (omega arith) (omega arith)) ∙ l.invariant in
    rw all (stored-part a.out.now a.at _ (to_bytes a.width a.x) (omega arith) (omega arith))
