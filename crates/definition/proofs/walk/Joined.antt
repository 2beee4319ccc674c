-- A walk over the rules, one after another, is a walk over all of them.
use Prim.Native.Nat.{ℕ, suc, ◌+◌, ◌-◌, ◌≤◌, ◌<◌}
use mathlib.Core.Path.{◌≡◌, refl, sym, ap}
use mathlib.Core.Bool.{Bool, true, false, cond, ◌&&◌}
use mathlib.Core.List.{List, [], ◌∷◌, ◌++◌}
use native.Mathlib.Omega.{arith}
use native.Mathlib.Nat.{add_assoc, add-zero}
use lib.ListN.{length, length-append}
use Rattle.std.specs.Prelude.{Option, Some}
use Rattle.refusal.specs.Outcome.{Outcome, refused, answered, ◌>>=◌}
use Rattle.refusal.proofs.Tests.{and-true}
use Rattle.zone.specs.declared.rules.Rule.{Rule}
use Rattle.rows.specs.Row.{active_rules}
use Rattle.definition.specs.declared.walk.Walk.{Walk}
use Rattle.definition.specs.Definition.{Kept, year_after, joined, read_one, read_rules}
use Rattle.definition.specs.Steps.{before_after, walk_over, walk_one, walk_rules}

before-append : (x : Option ℕ) (a b : List Rule) → before_after x (a ++ b) ≡ before_after (before_after x a) b
before-append x [] b = refl
before-append x (r ∷ a) b = before-append (Some r.year) a b

year-before : (x : Option ℕ) (a : List Rule) → (before_after x a) ≡ year_after x a
year-before x [] = refl
year-before x (r ∷ a) = year-before (Some r.year) a

active-append : (a b : List Rule) → active_rules (a ++ b) ≡ active_rules a + active_rules b
unfolding active_rules
active-append [] b = omega arith
active-append (r ∷ a) b = rw (active-append a b) (sym (add_assoc (cond r.active 1 0) (active_rules a) (active_rules b)))

and_assoc : (x y z : Bool) → (x && (y && z)) ≡ (x && y && z)
and_assoc true y z = refl
and_assoc false y z = refl

walk-join : (w : Walk) (a b : Kept) → walk_over w (joined a b) ≡ walk_over (walk_over w a) b
unfolding walk_over
walk-join w a b =
    rw (
      length-append a.rules b.rules,
      before-append w.before a.rules b.rules,
      active-append a.rules b.rules,
      and_assoc w.agree a.agree b.agree,
      ← (add_assoc w.kept (length a.rules) (length b.rules)),
      ← (add_assoc w.active (active_rules a.rules) (active_rules b.rules)),
    )

-- past a rule that is skipped
pub walk-skip : (w : Walk) (end : ℕ)
    → walk_over w (record { rules = []; agree = true; end = end })
    ≡ record { at = end; kept = w.kept; before = w.before; active = w.active; agree = w.agree }
unfolding walk_over active_rules
walk-skip w end = rw (add-zero w.kept, add-zero w.active, and-true w.agree)

-- the next rule, then the rest
rules-more : (s : List ℕ) (n : ℕ) (w : Walk) → walk_rules s (suc n) w ≡ (walk_one s w >>= walk_rules s n)
unfolding read_rules walk_over
rules-more s n w = go (read_one s w.at w.before)
  where
    rest : (k : Kept) (o : Outcome Kept)
        → ((o >>= λ r. answered (joined k r)) >>= λ q. answered (walk_over w q)) ≡ (o >>= λ r. answered (walk_over (walk_over w k) r))
    rest k (refused m) = refl
    rest k (answered r) = ap answered (walk-join w k r)

    next : (k : Kept)
        → ((read_rules s n k.end (year_after w.before k.rules) >>= λ r. answered (joined k r)) >>= λ q. answered (walk_over w q)) ≡ walk_rules s n (walk_over w k)
    next k = rw (year-before w.before k.rules) (rest k (read_rules s n k.end (year_after w.before k.rules)))

    go : (o : Outcome Kept)
        → ((o >>= λ k. (read_rules s n k.end (year_after w.before k.rules) >>= λ r. answered (joined k r))) >>= λ q. answered (walk_over w q))
        ≡ ((o >>= λ k. answered (walk_over w k)) >>= walk_rules s n)
    go (refused m) = refl
    go (answered k) = next k

-- ---- the loop: i rules of n are past
pub loop-start : (s : List ℕ) (n : ℕ) (w : Walk) → walk_rules s n w ≡ walk_rules s (n - 0) w
loop-start s n w =
    let f : n - 0 ≡ n = omega arith in
    rw f

pub loop-step : (s : List ℕ) (n i : ℕ) (w : Walk) → i < n → walk_rules s (n - i) w ≡ (walk_one s w >>= walk_rules s (n - (i + 1)))
loop-step s n i w h =
    let f : n - i ≡ suc (n - (i + 1)) = omega arith in
    rw f (rules-more s (n - (i + 1)) w)

pub loop-end : (s : List ℕ) (n i : ℕ) (w : Walk) → n ≤ i → walk_rules s (n - i) w ≡ answered w
unfolding read_rules
loop-end s n i w h =
    let f : n - i ≡ 0 = omega arith in
    rw f (ap answered (walk-skip w w.at))
