-- The last place not after a year holds the rule in force; a rule of a checked row is checked; the rule in force has the greatest year not after the one asked for.
use Prim.Native.Nat.{ℕ, suc, ◌-◌, ◌≤◌, ◌<◌}
use mathlib.Core.Path.{◌≡◌, refl, ◌∙◌, ap, subst}
use mathlib.Core.Bool.{Bool, true, false, not, cond}
use mathlib.Core.List.{List, [], ◌∷◌}
use mathlib.Core.Logic.{inl, inr, ⊎_elim}
use native.Mathlib.Omega.{arith}
use lib.ListN.{length, get_or, take}
use lib.Dec.{T, leb, ltb, eqb}
use borrow.Author.Tests.{leb-true, leb-false, ltb-true}
use Rattle.std.specs.Prelude.{Option, Some, None}
use Rattle.refusal.specs.Outcome.{answered, require}
use Rattle.refusal.proofs.OutcomeLaws.{then-answered, require-answered}
use Rattle.refusal.proofs.Tests.{both}
use Rattle.days.specs.Counting.{In}
use Rattle.calendar.specs.Ranges.{within}
use Rattle.struct_slices.specs.Places.{place_from, last_place, element_at}
use Rattle.struct_slices.proofs.LastPlace.{last-here, last-next}
use Rattle.zone.specs.declared.rules.Rule.{Rule}
use Rattle.zone.specs.Rules.{year_fits, check_dates, check_rule}
use Rattle.in_force.specs.Shown.{Checked}
use Rattle.rows.specs.Row.{check_rules, active_rules, check_row}
use Rattle.rows.specs.Search.{not_after, or_this, rule_in_force}
use Rattle.zone.specs.Rules.{no_rule}

-- ---- the place, and the rule there
abbrev here : List Rule → Option ℕ → Option Rule
here = element_at no_rule

rule-from : (r : Rule) (row : List Rule) (y : ℕ) (o : Option ℕ) → here (r ∷ row) (place_from (not_after r y) o) ≡ or_this (here row o) r y
rule-from r row y (Some i) = refl
rule-from r row y None = go (not_after r y)
  where
    go : (b : Bool) → here (r ∷ row) (cond b (Some 0) None) ≡ cond b (Some r) None
    go true = refl
    go false = refl

pub rule-says : (row : List Rule) (y : ℕ) → here row (last_place (λ e. not_after e y) row) ≡ rule_in_force row y
unfolding rule_in_force
rule-says [] y = refl
rule-says (r ∷ row) y = rule-from r row y (last_place (λ e. not_after e y) row) ∙ ap (λ (o : Option Rule). or_this o r y) (rule-says row y)

-- ---- from the back: the elements from place i on are past
module _ (p : Rule → Bool) (row : List Rule) (i : ℕ) (h : i ≡ 0 → ⊥) (k : i ≤ length row) (e : last_place p row ≡ last_place p (take i row)) where
  cut : last_place p row ≡ last_place p (take (suc (i - 1)) row)
  cut = let q : i ≡ suc (i - 1) = omega arith in e ∙ ap (λ (n : ℕ). last_place p (take n row)) q

  pub found-here : true ≡ p (get_or row (i - 1) no_rule) → last_place p row ≡ Some (i - 1)
  found-here t = cut ∙ last-here p row (i - 1) no_rule (omega arith) (subst T t tt)

  pub not-here : false ≡ p (get_or row (i - 1) no_rule) → last_place p row ≡ last_place p (take (i - 1) row)
  not-here t = cut ∙ last-next p row (i - 1) no_rule (omega arith) (subst (λ (b : Bool). T (not b)) t tt)

-- ---- a checked row
-- its rules pass 8, 10, 11 and 9
pub rules-pass : (row : List Rule) → check_row row ≡ answered tt → check_rules None row ≡ answered tt
unfolding check_row
rules-pass row e =
    let s = require-answered (within 1 1024 (length row)) 6 _ tt e in
    (then-answered (check_rules None row) (require (eqb (active_rules row) 1) 12) tt s.1).1

first_passes : (before : Option ℕ) (r : Rule) (row : List Rule) → check_rules before (r ∷ row) ≡ answered tt → (year_fits before r.year ≡ true) × ((check_dates r ≡ answered tt) × (check_rules (Some r.year) row ≡ answered tt))
unfolding check_rules check_rule
first_passes before r row e =
    let s = then-answered (check_rule before r) (check_rules (Some r.year) row) tt e in
    let t = require-answered (year_fits before r.year) 8 (check_dates r) s.0 s.1 in
    (t.0, (t.1, s.2))

in-force-checked : (before : Option ℕ) (row : List Rule) (y : ℕ) → check_rules before row ≡ answered tt → Checked (rule_in_force row y)
unfolding rule_in_force
in-force-checked before [] y e = tt
in-force-checked before (r ∷ row) y e =
    let f = first_passes before r row e in
    go (rule_in_force row y) (in-force-checked (Some r.year) row y f.1.1) f.1.0
  where
    go : (o : Option Rule) → Checked o → check_dates r ≡ answered tt → Checked (or_this o r y)
    go (Some later) h c = h
    go None h c = one (not_after r y)
      where
        one : (b : Bool) → Checked (cond b (Some r) None)
        one true = c
        one false = tt

-- the same of the rule that is found
found_of : (o : Option Rule) → Checked o → Checked (o)
found_of None h = h
found_of (Some r) h = h

pub found-checked : (row : List Rule) (y : ℕ) → check_row row ≡ answered tt → Checked ((rule_in_force row y))
found-checked row y e = found_of (rule_in_force row y) (in-force-checked None row y (rules-pass row e))

pub checked-in-force : (row : List Rule) (y : ℕ) → check_row row ≡ answered tt → Checked (rule_in_force row y)
checked-in-force row y e = in-force-checked None row y (rules-pass row e)

-- ---- years rise, so the last rule not after a year has the greatest such year
-- the rules after one of year x have later years
later-years : (x : ℕ) (row : List Rule) → check_rules (Some x) row ≡ answered tt → (s : Rule) → In s row → x < s.year
later-years x [] e s m = absurd m
later-years x (r ∷ row) e s m =
    let f = first_passes (Some x) r row e in
    let g : x < r.year = ltb-true x r.year (both (leb r.year 30827) (ltb x r.year) f.0).1 in
    ⊎_elim (λ q. rw q g) (λ k. let h : r.year < s.year = later-years r.year row f.1.1 s k in omega arith) m

-- r is the rule of the row with the greatest year not after y
pub record Greatest (row : List Rule) (y : ℕ) (r : Rule) : Type 0 where
  pub in_row : In r row
  pub not_later : r.year ≤ y
  pub none_greater : (s : Rule) → In s row → s.year ≤ y → s.year ≤ r.year

abbrev AllLater : List Rule → ℕ → Type 0
AllLater row y = (s : Rule) → In s row → y < s.year

-- what the search says by what it found
abbrev Found : List Rule → ℕ → Option Rule → Type 0
Found row y None = AllLater row y
Found row y (Some r) = Greatest row y r

found-greatest : (before : Option ℕ) (row : List Rule) (y : ℕ) → check_rules before row ≡ answered tt → Found row y (rule_in_force row y)
unfolding rule_in_force not_after
found-greatest before [] y e = λ s m. absurd m
found-greatest before (r ∷ row) y e =
    let f = first_passes before r row e in
    go (rule_in_force row y) (later-years r.year row f.1.1) (found-greatest (Some r.year) row y f.1.1)
  where
    go : (o : Option Rule) → AllLater row r.year → Found row y o → Found (r ∷ row) y (or_this o r y)
    go (Some t) l g =
        record {
          in_row = inr g.in_row;
          not_later = g.not_later;
          none_greater = λ s m h. ⊎_elim (λ q. rw q (let k = l t g.in_row in omega arith)) (λ n. g.none_greater s n h) m;
        }
    go None l g = one (not_after r y) refl
      where
        one : (b : Bool) → not_after r y ≡ b → Found (r ∷ row) y (cond b (Some r) None)
        one true n =
            record {
              in_row = inl refl;
              not_later = leb-true r.year y n;
              none_greater = λ s m h. ⊎_elim (λ q. rw q (omega arith)) (λ k. let i : y < s.year = g s k in omega arith) m;
            }
        one false n = λ s m. ⊎_elim (λ q. rw q (leb-false r.year y n)) (g s) m

-- THE LAW: in a checked row the rule in force is the one with the greatest year not after the one asked for
pub greatest : (row : List Rule) (y : ℕ) (r : Rule) → check_row row ≡ answered tt → rule_in_force row y ≡ Some r → Greatest row y r
greatest row y r c e = subst (Found row y) e (found-greatest None row y (rules-pass row c))

-- where there is none, every rule of the row is after the year
pub none-in-force : (row : List Rule) (y : ℕ) → check_row row ≡ answered tt → rule_in_force row y ≡ None → (s : Rule) → In s row → y < s.year
none-in-force row y c e = subst (Found row y) e (found-greatest None row y (rules-pass row c))
