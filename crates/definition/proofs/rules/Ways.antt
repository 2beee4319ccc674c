-- Each way out of one rule, as the code comes to it.
use Prim.Native.Nat.{ℕ, ◌+◌, ◌*◌, ◌^◌, ◌≤◌, ◌<◌}
use mathlib.Core.Path.{◌≡◌, refl, sym, ◌∙◌}
use mathlib.Core.Bool.{Bool, true, false, cond, ◌&&◌}
use mathlib.Core.List.{List, [], ◌∷◌}
use lib.ListN.{length, get_or}
use lib.Dec.{leb, eqb}
use native.Mathlib.Omega.{arith}
use borrow.Author.Tests.{le-leb, lt-leb, ne_eqb, eq-eqb, eqb-true, eqb-false, leb-true}
use Rattle.std.specs.Prelude.{Option}
use Rattle.refusal.specs.Outcome.{Outcome, refused, answered}
use Rattle.little_endian.specs.Fields.{unsigned_at}
use Rattle.little_endian.proofs.FieldLaws.{byte-field, field-split}
use Rattle.zone.specs.declared.rules.Rule.{Rule}
use Rattle.zone.specs.Rules.{check_rule, normal_rule}
use Rattle.definition.specs.Definition.{Kept, size_ok, bits_agree, rule_in, read_rule, read_one}

-- fourteen bytes are zero where eight and six are
pub unused : (s : List ℕ) (at a b : ℕ) → at + 14 ≤ length s → a ≡ unsigned_at s at 8 → b ≡ unsigned_at s (at + 8) 6
    → (eqb a 0 && eqb b 0) ≡ eqb (unsigned_at s at 14) 0
unused s at a b h ea eb = go (eqb a 0) (eqb b 0) refl refl
  where
    e : unsigned_at s at 14 ≡ a + 256 ^ 8 * b
    e = field-split s at 8 6 h ∙ rw (← ea, ← eb)

    go : (x y : Bool) → eqb a 0 ≡ x → eqb b 0 ≡ y → (x && y) ≡ eqb (unsigned_at s at 14) 0
    go true true p q = sym (eq-eqb (unsigned_at s at 14) 0 (omega (arith, e, eqb-true a 0 p, eqb-true b 0 q)))
    go true false p q = sym (ne_eqb (unsigned_at s at 14) 0 (λ z. eqb-false b 0 q (omega (arith, e, z))))
    go false y p q = sym (ne_eqb (unsigned_at s at 14) 0 (λ z. eqb-false a 0 p (omega (arith, e, z))))

-- a size that is right is no less than it must be
pub size-least : (minor stated size : ℕ) → size_ok minor stated size ≡ true → size ≤ stated
size-least minor stated size h = go (eqb minor 1) h
  where
    go : (b : Bool) → cond b (eqb stated size) (leb size stated) ≡ true → size ≤ stated
    go true e = omega (arith, eqb-true stated size e)
    go false e = leb-true size stated e

module _ (s : List ℕ) (at minor size : ℕ) (before : Option ℕ) where
  pub wrong_size : size_ok minor size 62 ≡ false → refused 2 ≡ read_rule s at minor size before
  unfolding read_rule
  wrong_size n = rw n

  module _ (a1 : size_ok minor size 62 ≡ true) where
    pub not-zero : eqb (unsigned_at s (at + 8) 14) 0 ≡ false → refused 7 ≡ read_rule s at minor size before
    unfolding read_rule
    not-zero n = rw (a1, n)

    module _ (a2 : eqb (unsigned_at s (at + 8) 14) 0 ≡ true) (r : Rule) (er : r ≡ rule_in s at) where
      pub not_sound : {n : ℕ} → check_rule before r ≡ refused n → refused n ≡ read_rule s at minor size before
      unfolding read_rule
      not_sound n = rw (a1, a2, ← er, n)

      pub sound : (m : Rule) (flags : ℕ) → check_rule before r ≡ answered tt → m ≡ normal_rule r → flags ≡ unsigned_at s (at + 4) 2
          → answered (record { rules = m ∷ []; agree = bits_agree flags; end = at + 4 + size }) ≡ read_rule s at minor size before
      unfolding read_rule
      sound m flags n em ef = rw (a1, a2, ← er, n, em, ef)

module _ (s : List ℕ) (at : ℕ) (before : Option ℕ) where
  pub short-head : length s < at + 4 → refused 1 ≡ read_one s at before
  unfolding read_one
  short-head n = go (leb (at + 1) (length s)) (leb (at + 1 + 1) (length s)) refl refl
    where
      e : leb (at + 2 + 2) (length s) ≡ false
      e = lt-leb (at + 2 + 2) (length s) (omega arith)

      go : (b c : Bool) → leb (at + 1) (length s) ≡ b → leb (at + 1 + 1) (length s) ≡ c → refused 1 ≡ read_one s at before
      go true true p q = rw (p, q, e)
      go true false p q = rw (p, q)
      go false c p q = rw p

  module _ (a1 : at + 4 ≤ length s) (size : ℕ) (es : size ≡ unsigned_at s (at + 2) 2) where
    has1 : leb (at + 1) (length s) ≡ true
    has1 = le-leb (at + 1) (length s) (omega arith)

    has2 : leb (at + 1 + 1) (length s) ≡ true
    has2 = le-leb (at + 1 + 1) (length s) (omega arith)

    has4 : leb (at + 2 + 2) (length s) ≡ true
    has4 = le-leb (at + 2 + 2) (length s) (omega arith)

    pub short-rule : length s < at + 4 + size → refused 1 ≡ read_one s at before
    unfolding read_one
    short-rule n = rw (has1, has2, has4, ← es, lt-leb (at + 4 + size) (length s) n)

    module _ (a2 : at + 4 + size ≤ length s) where
      pub skipped : (get_or s at 0 ≡ 2 → ⊥) → answered (record { rules = []; agree = true; end = at + 4 + size }) ≡ read_one s at before
      unfolding read_one
      skipped n = rw (has1, has2, has4, ← es, le-leb (at + 4 + size) (length s) a2, byte-field s at (omega arith), ne_eqb (get_or s at 0) 2 n)

      pub kept : (minor : ℕ) → minor ≡ get_or s (at + 1) 0 → get_or s at 0 ≡ 2 → {o : Outcome Kept} → o ≡ read_rule s at minor size before → o ≡ read_one s at before
      unfolding read_one
      kept minor em n eo =
          rw (has1, has2, has4, ← es, le-leb (at + 4 + size) (length s) a2, byte-field s at (omega arith), eq-eqb (get_or s at 0) 2 n, byte-field s (at + 1) (omega arith), ← em) eo
