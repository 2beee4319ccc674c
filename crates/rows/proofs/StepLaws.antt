-- A fold over the rules comes to the checks of the row.
use Prim.Native.Nat.{ℕ, suc, ◌+◌, ◌≤◌, ◌<◌}
use mathlib.Core.Path.{◌≡◌, refl, sym, ap, ◌∙◌}
use mathlib.Core.Bool.{Bool, true, false, cond}
use mathlib.Core.List.{List, [], ◌∷◌, foldl}
use native.Mathlib.Omega.{arith}
use native.Mathlib.Nat.{add-zero}
use lib.ListN.{length}
use lib.Dec.{eqb, ltb}
use borrow.Author.Tests.{ltb-true, ltb-false, ne_eqb}
use Rattle.std.specs.Prelude.{Option, Some, None, Result, Ok, Err}
use Rattle.refusal.specs.declared.Refusal.{Refusal}
use Rattle.refusal.specs.Number.{refusal_of}
use Rattle.refusal.specs.Outcome.{Outcome, refused, answered, require, ◌>>◌}
use Rattle.refusal.specs.Results.{outcome_of, result_of}
use Rattle.refusal.proofs.Known.{Known}
use Rattle.refusal.proofs.OutcomeLaws.{refused≢answered}
use Rattle.refusal.proofs.ResultLaws.{result-is}
use Rattle.calendar.specs.Ranges.{within}
use Rattle.zone.specs.declared.rules.Rule.{Rule}
use Rattle.zone.specs.Rules.{check_rule}
use Rattle.rows.specs.Row.{check_rules, active_rules, check_row}
use Rattle.rows.specs.Steps.{RowCheck, one_more, begun, next_of, checked_next, settled, checked_row}
use Rattle.rows.proofs.CheckLaws.{rule-known}

pub as-of : (o : Outcome (Unit {0})) → Known o → outcome_of (result_of o) ≡ o
as-of (refused n) k = ap refused k
as-of (answered ok) k = refl

-- ---- a refusal stays
stays : (row : List Rule) (c : RowCheck) (why : Refusal) → c.check ≡ Err why → foldl checked_next c row ≡ c
unfolding checked_next
stays [] c why e = refl
stays (r ∷ row) c why e = ap (λ (d : RowCheck). foldl checked_next d row) (ap (λ (k : Result (Unit {0}) Refusal). next_of k c r) e) ∙ stays row c why e

-- ---- counting up to 2
more-small : (n : ℕ) (a : Bool) → n ≤ 2 → one_more n a ≤ 2
unfolding one_more
more-small n false h = h
more-small n true h = go (ltb n 2) refl
  where
    go : (b : Bool) → ltb n 2 ≡ b → cond b (suc n) n ≤ 2
    go true e = let g : n < 2 = ltb-true n 2 e in omega arith
    go false e = h

more-is : (n k : ℕ) (a : Bool) → n ≤ 2 → eqb (one_more n a + k) 1 ≡ eqb (n + (cond a 1 0 + k)) 1
unfolding one_more
more-is n k false h = let e : n + k ≡ n + (0 + k) = omega arith in ap (λ (m : ℕ). eqb m 1) e
more-is n k true h = go (ltb n 2) refl
  where
    go : (b : Bool) → ltb n 2 ≡ b → eqb (cond b (suc n) n + k) 1 ≡ eqb (n + (1 + k)) 1
    go true e = let f : suc n + k ≡ n + (1 + k) = omega arith in ap (λ (m : ℕ). eqb m 1) f
    go false e =
        let g : 2 ≤ n = ltb-false n 2 e in
        ne_eqb (n + k) 1 (λ q. omega arith) ∙ sym (ne_eqb (n + (1 + k)) 1 (λ q. omega arith))

-- ---- the rules, one after another
abbrev passed_to : Option ℕ → ℕ → RowCheck
passed_to b n = record { check = (Ok tt); before = b; active = n }

record Folded (row : List Rule) (b : Option ℕ) (n : ℕ) (c : RowCheck) : Type 0 where
  says : outcome_of c.check ≡ check_rules b row
  counts : check_rules b row ≡ answered tt → eqb c.active 1 ≡ eqb (n + active_rules row) 1

folded : (row : List Rule) (b : Option ℕ) (n : ℕ) → n ≤ 2 → Folded row b n (foldl checked_next (passed_to b n) row)
unfolding checked_next check_rules active_rules
folded [] b n h = record { says = refl; counts = λ e. ap (λ (m : ℕ). eqb m 1) (sym (add-zero n)) }
folded (r ∷ row) b n h =
    go (check_rule b r) refl (rule-known b r) (folded row (Some r.year) (one_more n r.active) (more-small n r.active h))
  where
    go : (o : Outcome (Unit {0})) → check_rule b r ≡ o → Known (check_rule b r)
        → Folded row (Some r.year) (one_more n r.active) (foldl checked_next (passed_to (Some r.year) (one_more n r.active)) row)
        → Folded (r ∷ row) b n (foldl checked_next (next_of (Ok tt) (passed_to b n) r) row)
    go (refused m) e k i =
        let f : result_of (check_rule b r) ≡ Err (refusal_of m) = ap result_of e in
        let g : foldl checked_next (next_of (Ok tt) (passed_to b n) r) row ≡ next_of (Ok tt) (passed_to b n) r = stays row (next_of (Ok tt) (passed_to b n) r) (refusal_of m) f in
        record {
          says = ap (λ (c : RowCheck). outcome_of c.check) g ∙ as-of (check_rule b r) k ∙ e ∙ sym (rw e);
          counts = λ q. absurd (refused≢answered m tt (sym (rw e) ∙ q));
        }
    go (answered ok) e k i =
        let f : next_of (Ok tt) (passed_to b n) r ≡ passed_to (Some r.year) (one_more n r.active) =
        ap (λ (c : Result (Unit {0}) Refusal). record { check = c; before = Some r.year; active = one_more n r.active }) (ap result_of e) in
        rw f (record { says = rw e i.says; counts = λ q. i.counts (rw e at q) ∙ more-is n (active_rules row) r.active h })

-- THE LAW: the steps come to the checks of the row
both-checks : (o : Outcome (Unit {0})) (a b : Bool) → (o ≡ answered tt → a ≡ b) → (o >> require a 12) ≡ (o >> require b 12)
both-checks (refused n) a b h = refl
both-checks (answered ok) a b h = ap (λ (t : Bool). require t 12) (h refl)

pub row-checked : (row : List Rule) → settled (length row) (foldl checked_next begun row) ≡ check_row row
unfolding settled check_row
row-checked row =
    let f = folded row None 0 (omega arith) in
    let z : 0 + active_rules row ≡ active_rules row = omega arith in
    ap (λ (o : Outcome (Unit {0})). require (within 1 1024 (length row)) 6 >> o)
    (rw f.says (both-checks (check_rules None row) _ _ (λ e. f.counts e ∙ ap (λ (m : ℕ). eqb m 1) z)))

-- and so what answers by the checks of the row answers as the steps do
pub only-check : (row : List Rule) (a : Result (Unit {0}) Refusal) → outcome_of a ≡ check_row row → a ≡ checked_row row
only-check row a e = result-is a (check_row row) e ∙ ap result_of (sym (row-checked row))
