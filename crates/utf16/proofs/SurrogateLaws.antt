-- One flag is enough to find a lone surrogate, and the units of a part of the bytes come one after the other.
use Prim.Native.Nat.{ℕ, suc, ◌+◌, ◌-◌, ◌*◌, ◌≤◌, ◌<◌}
use mathlib.Core.Path.{◌≡◌, refl, sym, ap, ◌∙◌}
use mathlib.Core.Bool.{Bool, true, false, not, ◌&&◌, ◌||◌, beq}
use mathlib.Core.List.{List, [], ◌∷◌}
use native.Mathlib.Omega.{arith}
use lib.ListN.{length, take, drop, get_or}
use lib.Seq.{drop-cons}
use Rattle.little_endian.specs.Fields.{part, unsigned_at}
use Rattle.little_endian.proofs.FieldLaws.{field_step, byte-field}
use Rattle.utf16.specs.Surrogates.{units_of, is_high, is_low, any_lone}

-- ---- the flag
-- what the loop finds in some units, where the flag says whether a high one stands directly before them
unfoldable pub found : Bool → List ℕ → Bool
found after_high [] = after_high
found after_high (u ∷ l) = not (beq (is_low u) after_high) || found (is_high u) l

-- the flag finds the lone ones of these units, and the unit before them where it is a high one and no low one follows
flag : (before : ℕ) (l : List ℕ) → found (is_high before) l ≡ ((is_high before && not (is_low (get_or l 0 0))) || any_lone before l)
unfolding found any_lone
flag before [] = end (is_high before)
  where
    end : (h : Bool) → h ≡ ((h && true) || false)
    end true = refl
    end false = refl
flag before (u ∷ l) =
    ap (λ (b : Bool). not (beq (is_low u) (is_high before)) || b) (flag u l)
    ∙ turn (is_low u) (is_high before) (is_high u && not (is_low (get_or l 0 0))) (any_lone u l)
  where
    turn : (low high next rest : Bool) → (not (beq low high) || (next || rest)) ≡ ((high && not low) || ((next || (low && not high)) || rest))
    turn true true true rest = refl
    turn true true false rest = refl
    turn true false true rest = refl
    turn true false false rest = refl
    turn false true next rest = refl
    turn false false true rest = refl
    turn false false false rest = refl

-- from a name's start on it finds exactly those
pub flag-finds : (l : List ℕ) → found false l ≡ any_lone 0 l
flag-finds l = flag 0 l

-- ---- the units of a part of the bytes, one after the other
no-units : (s : List ℕ) (at : ℕ) → units_of (part s at (2 * 0)) ≡ []
unfolding units_of
no-units s at = refl

next-unit : (s : List ℕ) (at k : ℕ) → at + 2 ≤ length s → units_of (part s at (2 * suc k)) ≡ unsigned_at s at 2 ∷ units_of (part s (at + 2) (2 * k))
unfolding units_of
next-unit s at k h =
    let n : 2 * suc k ≡ suc (suc (2 * k)) = omega arith in
    let m : suc (suc at) ≡ at + 2 = omega arith in
    ap (λ (w : ℕ). units_of (take w (drop at s))) n
    ∙ ap (λ (l : List ℕ). units_of (take (suc (suc (2 * k))) l)) (drop-cons s at 0 (omega arith) ∙ ap {B = List ℕ} (λ l. get_or s at 0 ∷ l) (drop-cons s (suc at) 0 (omega arith)))
    ∙ ap (λ (u : ℕ). u ∷ units_of (take (2 * k) (drop (suc (suc at)) s))) (sym (field_step s at 1 (omega arith) ∙ ap (λ (b : ℕ). get_or s at 0 + 256 * b) (byte-field s (suc at) (omega arith))))
    ∙ ap (λ (p : ℕ). unsigned_at s at 2 ∷ units_of (part s p (2 * k))) m

-- ---- the loop: the units from the i-th on
abbrev pub left : List ℕ → ℕ → ℕ → ℕ → List ℕ
left s at units i = units_of (part s (at + 2 * i) (2 * (units - i)))

pub left-all : (s : List ℕ) (at units : ℕ) → left s at units 0 ≡ units_of (part s at (2 * units))
left-all s at units =
    let n : at + 2 * 0 ≡ at = omega arith in
    let m : units - 0 ≡ units = omega arith in
    rw (n, m)

pub left-next : (s : List ℕ) (at units i : ℕ) → i < units → at + 2 * units ≤ length s → left s at units i ≡ unsigned_at s (at + 2 * i) 2 ∷ left s at units (i + 1)
left-next s at units i h l =
    let n : units - i ≡ suc (units - (i + 1)) = omega arith in
    let m : at + 2 * i + 2 ≡ at + 2 * (i + 1) = omega arith in
    rw (n, next-unit s (at + 2 * i) (units - (i + 1)) (omega arith), m)

pub left-none : (s : List ℕ) (at units i : ℕ) → units ≤ i → left s at units i ≡ []
left-none s at units i h =
    let n : units - i ≡ 0 = omega arith in
    rw n (no-units s (at + 2 * i))

pub found_at : (h : Bool) (l m : List ℕ) (u : ℕ) → l ≡ u ∷ m → not (beq (is_low u) h) ≡ true → found h l ≡ true
unfolding found
found_at h l m u e t = rw (e, t)

pub found_after : (h : Bool) (l m : List ℕ) (u : ℕ) → l ≡ u ∷ m → not (beq (is_low u) h) ≡ false → found h l ≡ found (is_high u) m
unfolding found
found_after h l m u e t = rw (e, t)

pub found-end : (h : Bool) (l : List ℕ) → l ≡ [] → found h l ≡ h
unfolding found
found-end h l e = rw e
