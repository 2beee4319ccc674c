-- The kept rules stand at the kept places, one after another.
use Prim.Native.Nat.{ℕ, zero, suc, ◌+◌, ◌*◌, ◌≤◌, ◌<◌}
use mathlib.Core.Path.{◌≡◌, refl, sym, ◌∙◌, ap, subst}
use mathlib.Core.Bool.{Bool, true, false, cond, not, ◌&&◌, ◌||◌}
use mathlib.Core.List.{List, [], ◌∷◌, ◌++◌, append_assoc, append-nil}
use native.Mathlib.Omega.{arith}
use lib.ListN.{length}
use lib.Dec.{leb, eqb}
use borrow.Author.Tests.{leb-true}
use Rattle.std.specs.Prelude.{Option, Some, None, slice_get}
use Rattle.refusal.specs.Outcome.{answered}
use Rattle.refusal.proofs.OutcomeLaws.{bind-answered, then-answered, require-answered, answered-is}
use Rattle.little_endian.specs.Fields.{unsigned_at, next_field}
use Rattle.zone.specs.declared.rules.Rule.{Rule}
use Rattle.zone.specs.Rules.{check_rule}
use Rattle.rows.specs.Row.{active_rules}
use Rattle.definition.specs.Definition.{Kept, Definition, size_ok, rule_in, read_rule, read_one, year_after, joined, read_rules, read_header, read_definition, read_into}
use Rattle.definition.specs.Places.{after_rule, first_kept, next_kept, rule_from, first_rule, kept_place}
use Rattle.definition.proofs.rules.Ways.{size-least}
use Rattle.definition.proofs.walk.Known.{headed}
use Rattle.definition.proofs.places.First.{first-here, first-later}

-- the rules of a row stand at a place and at the next kept ones after it, each within the bytes
abbrev pub KeptAt : List ℕ → ℕ → List Rule → Type 0
KeptAt s at [] = Unit {0}
KeptAt s at (r ∷ row) = (r ≡ rule_from s at) × (at + 66 ≤ length s) × KeptAt s (next_kept s at) row

-- ---- one rule: what it keeps, before a row that stands further on
module _ (s : List ℕ) (at : ℕ) (before : Option ℕ) where
  abbrev Leads : Kept → Type 0
  Leads k = (k.end ≡ after_rule s at) × ((row : List Rule) → KeptAt s (first_kept s (after_rule s at)) row → KeptAt s (first_kept s at) (k.rules ++ row))

  kept-leads : (minor size : ℕ) (k : Kept) → size ≡ unsigned_at s (at + 2) 2 → at + 4 + size ≤ length s → eqb (unsigned_at s at 1) 2 ≡ true → read_rule s at minor size before ≡ answered k → Leads k
  unfolding read_rule
  kept-leads minor size k es h t e =
      let a = require-answered (size_ok minor size 62) 2 _ k e in
      let b = require-answered (eqb (unsigned_at s (at + 8) 14) 0) 7 _ k a.1 in
      let c = then-answered (check_rule before (rule_in s at)) _ k b.1 in
      let l = size-least minor size 62 a.0 in
      subst Leads (answered-is _ k c.2)
      (ap (λ (n : ℕ). at + 4 + n) es, λ row q. rw (first-here s at (omega arith) t) (refl, omega arith, q))

  one-leads : (k : Kept) → read_one s at before ≡ answered k → Leads k
  unfolding read_one
  one-leads k e =
      let (major, p, e1) = bind-answered (next_field s at 1) _ k e in
      let (minor, q, e2) = bind-answered (next_field s (at + 1) 1) _ k e1 in
      let (size, r, e3) = bind-answered (next_field s (at + 2) 2) _ k e2 in
      let (h, e4) = require-answered (leb (at + 4 + size) (length s)) 1 _ k e3 in
      let ma = answered-is (unsigned_at s at 1) major (require-answered (leb (at + 1) (length s)) 1 _ major p).1 in
      let sa = answered-is (unsigned_at s (at + 2) 2) size (require-answered (leb (at + 2 + 2) (length s)) 1 _ size r).1 in
      go (eqb major 2) minor size (sym sa) (leb-true (at + 4 + size) (length s) h) (ap (λ (n : ℕ). eqb n 2) ma) e4
    where
      go : (b : Bool) (minor size : ℕ) → size ≡ unsigned_at s (at + 2) 2 → at + 4 + size ≤ length s → eqb (unsigned_at s at 1) 2 ≡ b
          → cond b (read_rule s at minor size before) (answered (record { rules = []; agree = true; end = at + 4 + size })) ≡ answered k → Leads k
      go true minor size es h t e = kept-leads minor size k es h t e
      go false minor size es h t e =
          subst Leads (answered-is _ k e) (ap (λ (n : ℕ). at + 4 + n) es, λ row q. rw (first-later s at (omega arith) t) q)

-- ---- so many rules from a place on
pub rules-kept : (s : List ℕ) (count at : ℕ) (before : Option ℕ) (k : Kept) → read_rules s count at before ≡ answered k → KeptAt s (first_kept s at) k.rules
unfolding read_rules
rules-kept s zero at before k e = rw (sym (answered-is (record { rules = []; agree = true; end = at }) k e)) tt
rules-kept s (suc more) at before k e =
    let (one, p, e1) = bind-answered (read_one s at before) _ k e in
    let (rest, q, e2) = bind-answered (read_rules s more one.end (year_after before one.rules)) _ k e1 in
    let (end, leads) = one-leads s at before one p in
    let i = rules-kept s more one.end (year_after before one.rules) rest q in
    subst (λ (m : Kept). KeptAt s (first_kept s at) m.rules) (answered-is (joined one rest) k e2) (leads rest.rules (subst (λ (n : ℕ). KeptAt s (first_kept s n) rest.rules) end i))

-- ---- a whole definition
pub definition-kept : (s : List ℕ) (d : Definition) → read_definition s ≡ answered d → KeptAt s (first_rule s) d.rules
unfolding read_definition
definition-kept s d e =
    let (h, eh, e1) = bind-answered (read_header s) _ d e in
    let (k, ek, e2) = bind-answered (read_rules s h.count (4 + h.size) None) _ d e1 in
    let (a, e3) = require-answered (k.agree && eqb (active_rules k.rules) 1) 12 _ d e2 in
    let (b, e4) = require-answered (not (eqb h.minor 1) || eqb k.end (length s)) 2 _ d e3 in
    let q = rules-kept s h.count (4 + h.size) None k ek in
    subst (λ (m : Definition). KeptAt s (first_rule s) m.rules) (answered-is (record { rules = k.rules; name_length = 2 * h.units }) d e4)
    (subst (λ (n : ℕ). KeptAt s (first_kept s (4 + n)) k.rules) (headed s h eh).size q)

pub into-kept : (s : List ℕ) (room : ℕ) (rules : List Rule) → read_into s room ≡ answered rules → KeptAt s (first_rule s) rules
unfolding read_into
into-kept s room rules e =
    let (d, ed, e1) = bind-answered (read_definition s) _ rules e in
    let (l, e2) = require-answered (leb (length d.rules) room) 13 _ rules e1 in
    subst (KeptAt s (first_rule s)) (answered-is d.rules rules e2) (definition-kept s d ed)

-- ---- as a loop comes to them: `place` is the place of each rule, and `filled` the row with so many rules filled in
module _ (s : List ℕ) where
  abbrev pub Steps : (ℕ → ℕ) → Type 0
  Steps place = (n : ℕ) → place (suc n) ≡ next_kept s (place n)

  -- each place has its 66 bytes
  pub place-fits : (row : List Rule) (at : ℕ) (place : ℕ → ℕ) → KeptAt s at row → place 0 ≡ at → Steps place → (i : ℕ) → i < length row → place i + 66 ≤ length s
  place-fits [] at place k z n i h = absurd (omega arith)
  place-fits (r ∷ row) at place k z n zero h = rw z k.1
  place-fits (r ∷ row) at place k z n (suc i) h =
      place-fits row (next_kept s at) (λ m. place (suc m)) k.2 (n 0 ∙ ap (next_kept s) z) (λ m. n (suc m)) i (omega arith)

  -- and the rule there is the row's
  pub rule-there : (row : List Rule) (at : ℕ) (place : ℕ → ℕ) → KeptAt s at row → place 0 ≡ at → Steps place → (i : ℕ) → i < length row → slice_get row i ≡ Some (rule_from s (place i))
  rule-there [] at place k z n i h = absurd (omega arith)
  rule-there (r ∷ row) at place k z n zero h = rw z (ap Some k.0)
  rule-there (r ∷ row) at place k z n (suc i) h =
      rule-there row (next_kept s at) (λ m. place (suc m)) k.2 (n 0 ∙ ap (next_kept s) z) (λ m. n (suc m)) i (omega arith)

  -- the rules made one after another are the row
  pub filled_is : (row : List Rule) (at : ℕ) (place : ℕ → ℕ) → KeptAt s at row → place 0 ≡ at → Steps place
      → (old : List Rule) (filled : ℕ → List Rule) → filled 0 ≡ old → ((n : ℕ) → filled (suc n) ≡ filled n ++ (rule_from s (place n) ∷ [])) → filled (length row) ≡ old ++ row
  filled_is [] at place k z n old filled f g = f ∙ sym (append-nil old)
  filled_is (r ∷ row) at place k z n old filled f g =
      let one : filled 1 ≡ old ++ (r ∷ []) = g 0 ∙ rw (f, z, k.0) in
      filled_is row (next_kept s at) (λ m. place (suc m)) k.2 (n 0 ∙ ap (next_kept s) z) (λ m. n (suc m)) (old ++ (r ∷ [])) (λ m. filled (suc m)) one (λ m. g (suc m))
      ∙ append_assoc old (r ∷ []) row

  -- ---- the same of a reading into a row
  module _ (room : ℕ) (rules : List Rule) (e : read_into s room ≡ answered rules) (place : ℕ → ℕ) (z : place 0 ≡ first_rule s) (n : Steps place) where
    pub into-fits : (i : ℕ) → i < length rules → place i + 66 ≤ length s
    into-fits = place-fits rules (first_rule s) place (into-kept s room rules e) z n

    pub into-there : (i : ℕ) → i < length rules → slice_get rules i ≡ Some (rule_from s (place i))
    into-there = rule-there rules (first_rule s) place (into-kept s room rules e) z n

    pub into-filled : (filled : ℕ → List Rule) → filled 0 ≡ [] → ((n : ℕ) → filled (suc n) ≡ filled n ++ (rule_from s (place n) ∷ [])) → filled (length rules) ≡ rules
    into-filled filled = filled_is rules (first_rule s) place (into-kept s room rules e) z n [] filled

  -- the places by name
  pub kept-place : Steps (kept_place s)
  kept-place m = refl
