-- Fields, over the width: their parts, and that what was written is read and what was read is written.
use Prim.Native.Nat.{ℕ, zero, suc, ◌+◌, ◌-◌, ◌*◌, ◌/◌, ◌%◌, ◌^◌, ◌<◌, ◌≤◌}
use mathlib.Core.Path.{◌≡◌, refl, ap, ◌∙◌}
use mathlib.Core.Bool.{true}
use mathlib.Core.List.{List, ◌++◌}
use native.Mathlib.Omega.{arith}
use native.Mathlib.Nat.{pow-suc}
use lib.Dec.{leb, lit<}
use lib.ListN.{length, get_or, take, drop, length-drop}
use lib.Seq.{drop-cons, take-add, drop-drop, length-take-le, drop-append-add, take_at}
use borrow.Author.Tests.{leb-true}
use Rattle.little_endian.specs.Bytes.{from_bytes, to_bytes, AllBytes}
use Rattle.little_endian.specs.Fields.{part, unsigned_at}
use Rattle.little_endian.proofs.ByteLaws.{length-toBytes, from-to, from-append}

-- ---- a field and the shorter fields in it
pub field_step : (s : List ℕ) (at w : ℕ) → at < length s → unsigned_at s at (suc w) ≡ get_or s at 0 + 256 * unsigned_at s (suc at) w
unfolding unsigned_at from_bytes
field_step s at w h = ap (λ l. from_bytes (take (suc w) l)) (drop-cons s at 0 h)

pub byte-field : (s : List ℕ) (at : ℕ) → at < length s → unsigned_at s at 1 ≡ get_or s at 0
unfolding unsigned_at from_bytes
byte-field s at h = field_step s at 0 h ∙ omega arith

-- a field of a + b bytes is one of a bytes and one of b behind it
pub field-split : (s : List ℕ) (at a b : ℕ) → at + (a + b) ≤ length s → unsigned_at s at (a + b) ≡ unsigned_at s at a + 256 ^ a * unsigned_at s (at + a) b
unfolding unsigned_at
field-split s at a b h =
    let l = length-take-le a (drop at s) (rw (length-drop at s) (omega arith)) in
    rw (take-add a b (drop at s), from-append, l, drop-drop)

-- a field of bytes fits its width
pub field_lt : (w : ℕ) (s : List ℕ) → AllBytes s → (at : ℕ) → at + w ≤ length s → unsigned_at s at w < 256 ^ w
unfolding unsigned_at from_bytes
field_lt zero s b at h = lit< tt
field_lt (suc w) s b at h =
    let i = field_lt w s b (suc at) (omega arith) in
    let p : 256 ^ suc w ≡ 256 ^ w * 256 = pow-suc 256 w in
    rw (field_step s at w (omega arith)) (omega (arith, b at))

-- ---- what was written is read: a field behind other bytes, behind another field of k bytes, and the field itself
pub field_past : (w : ℕ) (a b : List ℕ) (at : ℕ) → unsigned_at (a ++ b) (length a + at) w ≡ unsigned_at b at w
unfolding unsigned_at
field_past w a b at = rw (drop-append-add a b at)

pub field_skip : (w k x : ℕ) (b : List ℕ) (at : ℕ) → leb k at ≡ true → unsigned_at (to_bytes k x ++ b) at w ≡ unsigned_at b (at - k) w
field_skip w k x b at h =
    let l = length-toBytes k x in
    let e : at ≡ length (to_bytes k x) + (at - k) = omega (arith, leb-true k at h) in
    ap (λ (n : ℕ). unsigned_at (to_bytes k x ++ b) n w) e ∙ field_past w (to_bytes k x) b (at - k)

pub field-here : (w x : ℕ) (b : List ℕ) → x < 256 ^ w → unsigned_at (to_bytes w x ++ b) 0 w ≡ x
unfolding unsigned_at
field-here w x b h = rw (take_at (to_bytes w x) b w (length-toBytes w x)) (from-to w x h)

-- ---- what was read is written
pub bytes-field : (w : ℕ) (s : List ℕ) → AllBytes s → (at : ℕ) → at + w ≤ length s → to_bytes w (unsigned_at s at w) ≡ part s at w
unfolding to_bytes
bytes-field zero s b at h = refl
bytes-field (suc w) s b at h =
    let x = get_or s at 0 in
    let y = unsigned_at s (suc at) w in
    let p : at < length s = omega arith in
    let m : (x + 256 * y) % 256 ≡ x = omega (arith, b at) in
    let d : (x + 256 * y) / 256 ≡ y = omega (arith, b at) in
    let i : to_bytes w y ≡ part s (suc at) w = bytes-field w s b (suc at) (omega arith) in
    rw (field_step s at w p, m, d, drop-cons s at 0 p, i)
