-- Bytes stored one after another are the record stored at once.
use Prim.Native.Nat.{ℕ, suc, ◌+◌, ◌≤◌}
use mathlib.Core.Path.{◌≡◌, sym, ◌∙◌}
use mathlib.Core.List.{List, [], ◌∷◌, ◌++◌, append_assoc, append-nil}
use native.Mathlib.Omega.{arith}
use native.Mathlib.Nat.{add-zero}
use lib.ListN.{length, take, drop, set, drop_of_length-le}
use lib.Seq.{drop-drop, length-sets, sets-eq}
use borrow.Rule.Slice.PartMut.{put_mid}
use Rattle.little_endian.specs.Bytes.{to_bytes}
use Rattle.little_endian.specs.Stored.{stored}
use Rattle.little_endian.proofs.ByteLaws.{length-toBytes}

pub length-stored : (s : List ℕ) (at : ℕ) (b : List ℕ) → length (stored s at b) ≡ length s
unfolding stored
length-stored = length-sets

-- ---- bytes behind others
pub stored-append : (s : List ℕ) (at : ℕ) (a b : List ℕ) → stored s at (a ++ b) ≡ stored (stored s at a) (at + length a) b
unfolding stored
stored-append s at [] b = rw (add-zero at)
stored-append s at (x ∷ a) b =
    let e : suc at + length a ≡ at + suc (length a) = omega arith in
    stored-append (set s at x) (suc at) a b ∙ rw e

-- a number of n bytes, and what follows it
pub stored-le : (s : List ℕ) (at n x : ℕ) (b : List ℕ) → stored s at (to_bytes n x ++ b) ≡ stored (stored s at (to_bytes n x)) (at + n) b
stored-le s at n x b = rw (stored-append, length-toBytes)

-- ---- what stands there afterwards: the bytes, between what stood before and behind them
pub stored_at : (s : List ℕ) (at : ℕ) (b : List ℕ) → at + length b ≤ length s → stored s at b ≡ take at s ++ (b ++ drop (at + length b) s)
unfolding stored
stored_at s at b h = sets-eq b s at h ∙ append_assoc (take at s) b (drop (at + length b) s)

pub stored-front : (s b : List ℕ) → length b ≤ length s → stored s 0 b ≡ b ++ drop (length b) s
stored-front s b h =
    let z : 0 + length b ≡ length b = omega arith in
    stored_at s 0 b (omega arith) ∙ rw z

pub stored-whole : (s b : List ℕ) → length b ≡ length s → stored s 0 b ≡ b
stored-whole s b e = stored-front s b (omega arith) ∙ rw (drop_of_length-le s {i = length b} (omega arith)) (append-nil b)

-- as a write to a part leaves it
pub stored-part : (s : List ℕ) (at n : ℕ) (b : List ℕ) → n ≡ length b → at + n ≤ length s → put_mid at n s b ≡ stored s at b
stored-part s at n b e h = rw (drop-drop, e) (sym (stored_at s at b (omega arith)))
