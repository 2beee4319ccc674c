-- The units of a name have no lone surrogate exactly where they are the UTF-16 of some text.
use Prim.Native.Nat.{ℕ, suc, ◌+◌, ◌-◌, ◌*◌, ◌/◌, ◌%◌, ◌<◌}
use mathlib.Core.Path.{◌≡◌, refl, sym, ap, ◌∙◌}
use mathlib.Core.Bool.{Bool, true, false, not, ◌&&◌, ◌||◌, false≢true, true≢false}
use mathlib.Core.List.{List, [], ◌∷◌, ◌++◌, map}
use native.Mathlib.Omega.{arith}
use lib.Dec.{ltb}
use borrow.Author.Tests.{lt-ltb, le-ltb}
use Rattle.little_endian.specs.Bytes.{AllBytes}
use Rattle.calendar.proofs.ranges.Within.{is_within, is_below, is-above, within-is}
use Rattle.utf16.specs.Surrogates.{units_of, is_high, is_low, is_lone, any_lone, has_lone_surrogate}
use Rattle.utf16.specs.Text.{Character, encoded, utf16, AllCharacters, TextOf}

-- ---- text has none
-- before what goes on without one, a character brings none
none_before : (before c : ℕ) (l : List ℕ) → is_high before ≡ false → Character c → ((last : ℕ) → is_high last ≡ false → any_lone last l ≡ false) → any_lone before (encoded c ++ l) ≡ false
unfolding any_lone
none_before before c l b k rest = go (ltb c 0x10000) refl
  where
    go : (t : Bool) → ltb c 0x10000 ≡ t → any_lone before (encoded c ++ l) ≡ false
    go true e = rw (e, k.no_high, k.no_low) (rest c k.no_high)
    go false e =
        let high = 0xD800 + (c - 0x10000) / 0x400 in
        let low = 0xDC00 + (c - 0x10000) % 0x400 in
        let h1 : is_high high ≡ true = sym (is_within 0xD800 0xDBFF high (omega arith) (omega (arith, k.in_range))) in
        let h2 : is_low high ≡ false = sym (is_below 0xDC00 0xDFFF high (omega (arith, k.in_range))) in
        let l1 : is_low low ≡ true = sym (is_within 0xDC00 0xDFFF low (omega arith) (omega arith)) in
        let l2 : is_high low ≡ false = sym (is-above 0xD800 0xDBFF low (omega arith)) in
        rw (e, h1, h2, l1, l2) (rest low l2)

none_from : (before : ℕ) → is_high before ≡ false → (text : List ℕ) → AllCharacters text → any_lone before (utf16 text) ≡ false
unfolding any_lone utf16
none_from before b [] k = refl
none_from before b (c ∷ text) k = none_before before c (utf16 text) b k.0 (λ last h. none_from last h text k.1)

text-has-none : (units : List ℕ) → TextOf units → any_lone 0 units ≡ false
text-has-none units t = ap (any_lone 0) (sym t.encodes) ∙ none_from 0 refl t.text t.characters

-- ---- units without one are text
abbrev AllUnits : List ℕ → Type 0
AllUnits [] = Unit {0}
AllUnits (u ∷ l) = (u < 0x10000) × AllUnits l

-- what a unit that is not lone tells, where no high one stands before it
record Whole (unit after : ℕ) (rest : Bool) : Type 0 where
  no_low : is_low unit ≡ false
  paired : is_high unit ≡ true → is_low after ≡ true
  goes_on : rest ≡ false

whole : (before unit after : ℕ) (rest : Bool) → is_high before ≡ false → (is_lone before unit after || rest) ≡ false → Whole unit after rest
whole before unit after rest b e =
    let (l, p, r) = go (is_high unit) (is_low unit) (is_low after) (rw b at e) in
    record { no_low = l; paired = p; goes_on = r }
  where
    go : (high low next : Bool) → (((high && not next) || (low && true)) || rest) ≡ false → (low ≡ false) × (high ≡ true → next ≡ true) × (rest ≡ false)
    go true true next f = absurd (true≢false (always next f))
      where
        always : (next : Bool) → (((true && not next) || true) || rest) ≡ false → true ≡ false
        always true f = f
        always false f = f
    go true false true f = (refl, λ h. refl, f)
    go true false false f = absurd (true≢false f)
    go false true next f = absurd (true≢false f)
    go false false next f = (refl, λ h. absurd (false≢true h), f)

-- a unit that is no surrogate, before text; and a pair
one : (u : ℕ) (l : List ℕ) → u < 0x10000 → is_high u ≡ false → is_low u ≡ false → TextOf l → TextOf (u ∷ l)
unfolding utf16
one u l h e f t =
    record {
      text = u ∷ t.text;
      characters = (record { in_range = omega arith; no_high = e; no_low = f }, t.characters);
      encodes = rw (lt-ltb u 0x10000 h) (ap (λ (m : List ℕ). u ∷ m) t.encodes);
    }

two : (u v : ℕ) (l : List ℕ) → is_high u ≡ true → is_low v ≡ true → TextOf l → TextOf (u ∷ v ∷ l)
unfolding utf16
two u v l e f t =
    let (u1, u2) = within-is 0xD800 0xDBFF u e in
    let (v1, v2) = within-is 0xDC00 0xDFFF v f in
    let c = 0x10000 + (0x400 * (u - 0xD800) + (v - 0xDC00)) in
    let high : 0xD800 + (c - 0x10000) / 0x400 ≡ u = omega arith in
    let low : 0xDC00 + (c - 0x10000) % 0x400 ≡ v = omega arith in
    record {
      text = c ∷ t.text;
      characters = (record { in_range = omega arith; no_high = sym (is-above 0xD800 0xDBFF c (omega arith)); no_low = sym (is-above 0xDC00 0xDFFF c (omega arith)) }, t.characters);
      encodes = rw (le-ltb c 0x10000 (omega arith), high, low) (ap (λ (m : List ℕ). u ∷ v ∷ m) t.encodes);
    }

text-from : (before : ℕ) → is_high before ≡ false → (l : List ℕ) → AllUnits l → any_lone before l ≡ false → TextOf l
unfolding any_lone utf16
text-from before b [] a e = record { text = []; characters = tt; encodes = refl }
text-from before b (u ∷ []) a e = go (is_high u) refl
  where
    w : Whole u 0 false
    w = whole before u 0 false b e

    go : (t : Bool) → is_high u ≡ t → TextOf (u ∷ [])
    go true h = absurd (false≢true (w.paired h))
    go false h = one u [] a.0 h w.no_low (record { text = []; characters = tt; encodes = refl })
text-from before b (u ∷ v ∷ l) a e =
    let w = whole before u v (any_lone u (v ∷ l)) b e in
    pick (is_high u) refl w
    (λ h. text-from u h (v ∷ l) a.1 w.goes_on)
    (λ h g. text-from v g l a.1.1 h)
  where
    pick : (t : Bool) → is_high u ≡ t → Whole u v (any_lone u (v ∷ l)) → (is_high u ≡ false → TextOf (v ∷ l)) → (any_lone v l ≡ false → is_high v ≡ false → TextOf l) → TextOf (u ∷ v ∷ l)
    pick false h w next behind = one u (v ∷ l) a.0 h w.no_low (next h)
    pick true h w next behind =
        let low = w.paired h in
        let (v1, v2) = within-is 0xDC00 0xDFFF v low in
        let no_high : is_high v ≡ false = sym (is-above 0xD800 0xDBFF v (omega arith)) in
        two u v l h low (behind (rw (no_high, low, h) at w.goes_on) no_high)

none-is-text : (units : List ℕ) → AllUnits units → any_lone 0 units ≡ false → TextOf units
none-is-text units a e = text-from 0 refl units a e

-- ---- the same of a name
units-fit : (name : List ℕ) → AllBytes name → AllUnits (units_of name)
unfolding units_of
units-fit [] b = tt
units-fit (low ∷ []) b = tt
units-fit (low ∷ high ∷ s) b =
    let l : low < 256 = b 0 in
    let h : high < 256 = b 1 in
    (omega arith, units-fit s (λ i. b (suc (suc i))))

-- THE LAW: the units of a name without a lone surrogate are the UTF-16 of some text, and the UTF-16 of a text has none
pub name-is-text : (name : List ℕ) → AllBytes name → (has_lone_surrogate name ≡ false → TextOf (units_of name)) × (TextOf (units_of name) → has_lone_surrogate name ≡ false)
name-is-text name b = (none-is-text (units_of name) (units-fit name b), text-has-none (units_of name))

-- the ends of the first plane and of all characters, and a factory, U+1F3ED
pub encoded-examples :
    map encoded (0xFFFF ∷ 0x10000 ∷ 0x1F3ED ∷ 0x10FFFF ∷ [])
    ≡ (0xFFFF ∷ []) ∷ (0xD800 ∷ 0xDC00 ∷ []) ∷ (0xD83C ∷ 0xDFED ∷ []) ∷ (0xDBFF ∷ 0xDFFF ∷ []) ∷ []
encoded-examples = refl
