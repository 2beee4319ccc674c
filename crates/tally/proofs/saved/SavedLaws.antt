-- The saved record as the code reads and writes it: its fields one after another, and the tests in their order.
use Prim.Native.Nat.{ℕ, suc, ◌+◌, ◌*◌, ◌≤◌, ◌<◌}
use mathlib.Core.Path.{◌≡◌, refl, sym, ◌∙◌}
use mathlib.Core.Bool.{true, false}
use mathlib.Core.List.{List, [], ◌∷◌, append_assoc}
use native.Mathlib.Numerals.{add-one}
use native.Mathlib.Omega.{arith}
use lib.ListN.{length, get_or, drop, length-append, drop_of_length-le}
use lib.Seq.{drop-cons}
use borrow.Author.Tests.{eq-eqb, ne_eqb}
use Rattle.refusal.specs.Outcome.{refused, answered}
use Rattle.little_endian.specs.Bytes.{to_bytes}
use Rattle.little_endian.specs.TwosComplement.{unsigned}
use Rattle.little_endian.specs.Fields.{unsigned_at}
use Rattle.little_endian.specs.Stored.{stored}
use Rattle.little_endian.proofs.ByteLaws.{length-toBytes}
use Rattle.little_endian.proofs.StoredLaws.{stored-le}
use Rattle.tally.specs.declared.tallies.Tally.{Tally}
use Rattle.tally.specs.Tallies.{holds}
use Rattle.tally.specs.Saved.{total_bytes, record_of, recorded, readable, read_tally}
use Rattle.tally.specs.Answers.{or_else, no_tally}

-- ---- lengths

pub length-totals : (l : List ℕ) → length (total_bytes l) ≡ 8 * length l
unfolding total_bytes
length-totals [] = refl
length-totals (x ∷ l) = length-append (to_bytes 8 x) (total_bytes l) ∙ omega (arith, length-toBytes 8 x, length-totals l)

pub length-record : (t : Tally) → length t.totals ≡ 7 → length (record_of t) ≡ 68
unfolding record_of
length-record t l = simp (length-append, length-toBytes) (omega (arith, length-totals t.totals))

-- ---- written

-- where total i is put in its place, those after it are left to put
pub put-total : (s l : List ℕ) (i : ℕ) {t : List ℕ} → i < length l → t ≡ stored s (12 + 8 * i) (to_bytes 8 (get_or l i 0))
    → stored t (12 + 8 * (i + 1)) (total_bytes (drop (i + 1) l)) ≡ stored s (12 + 8 * i) (total_bytes (drop i l))
unfolding total_bytes
put-total s l i h e =
    let f : 12 + 8 * (i + 1) ≡ 12 + 8 * i + 8 = omega arith in
    rw (e, f, add-one i, drop-cons l i 0 h) (sym (stored-le s (12 + 8 * i) 8 (get_or l i 0) (total_bytes (drop (suc i) l))))

pub put_last : (s l : List ℕ) (i : ℕ) → length l ≤ i → stored s (12 + 8 * i) (total_bytes (drop i l)) ≡ s
unfolding total_bytes stored
put_last s l i h = rw (drop_of_length-le l h)

pub put_record : (s : List ℕ) (t : Tally) {a b c d : List ℕ}
    → a ≡ stored s 0 (to_bytes 2 66)
    → b ≡ stored a 2 (to_bytes 2 1)
    → c ≡ stored b 4 (to_bytes 8 (unsigned 8 t.end.0))
    → d ≡ stored c 12 (total_bytes t.totals)
    → d ≡ stored s 0 (record_of t)
unfolding record_of
put_record s t ea eb ec ed = simp (stored-le, append_assoc, ea, eb, ec, ed)

-- ---- read

abbrev Unread : List ℕ → Type 0
Unread s = (refused 18 ≡ read_tally s) × (no_tally ≡ or_else (read_tally s) no_tally)

module _ (s : List ℕ) where
  pub other_length : (length s ≡ 68 → ⊥) → Unread s
  unfolding read_tally readable
  other_length a = rw (ne_eqb (length s) 68 a) (refl, refl)

  module _ (a : length s ≡ 68) where
    pub other-count : (unsigned_at s 0 2 ≡ 66 → ⊥) → Unread s
    unfolding read_tally readable
    other-count b = rw (eq-eqb (length s) 68 a, ne_eqb (unsigned_at s 0 2) 66 b) (refl, refl)

    module _ (b : unsigned_at s 0 2 ≡ 66) where
      pub other-kind : (unsigned_at s 2 2 ≡ 1 → ⊥) → Unread s
      unfolding read_tally readable
      other-kind c = rw (eq-eqb (length s) 68 a, eq-eqb (unsigned_at s 0 2) 66 b, ne_eqb (unsigned_at s 2 2) 1 c) (refl, refl)

      module _ (c : unsigned_at s 2 2 ≡ 1) (t : Tally) (d : recorded s ≡ t) where
        pub does-not-hold : holds t ≡ false → Unread s
        unfolding read_tally readable
        does-not-hold h = rw (eq-eqb (length s) 68 a, eq-eqb (unsigned_at s 0 2) 66 b, eq-eqb (unsigned_at s 2 2) 1 c, d, h) (refl, refl)

        pub the-tally : holds t ≡ true → (answered t ≡ read_tally s) × (t ≡ or_else (read_tally s) no_tally)
        unfolding read_tally readable
        the-tally h = rw (eq-eqb (length s) 68 a, eq-eqb (unsigned_at s 0 2) 66 b, eq-eqb (unsigned_at s 2 2) 1 c, d, h) (refl, refl)
