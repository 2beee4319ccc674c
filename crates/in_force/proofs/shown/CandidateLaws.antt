-- The ticks that show a local tick, worked out from the few that could.
use Rattle.std.specs.Prelude.{Option, Some, None}
use Rattle.std.proofs.Common.{◌≡◌, ℕ, ◌+◌, ◌-◌, ◌<◌, ◌≤◌, Bool, true, false, cond, ◌&&◌, eqb, ltb, leb, [], ◌∷◌, ◌++◌, sym, refl, ◌∙◌, ap₂, arith, ltb-false, ltb-true, leb-true}
use Rattle.refusal.proofs.Tests.{both}
use Rattle.days.specs.Counting.{among}
use Rattle.days.specs.Ticks.{day, year_of, year_tick}
use Rattle.days.proofs.Counting.{append-none}
use Rattle.days.proofs.ticks.YearTicks.{ticks-rise, tick-1602}
use Rattle.calendar.specs.Ranges.{within}
use Rattle.zone.specs.declared.rules.Rule.{Rule}
use Rattle.zone.specs.Biases.{in_bias_range}
use Rattle.in_force.specs.declared.rule_bias.YearBias.{YearBias}
use Rattle.in_force.specs.Biases.{plus_bias}
use Rattle.in_force.specs.RuleBias.{daylight_between}
use Rattle.in_force.specs.Shown.{Checked, shows_under, year_ticks, shown_ticks}
use Rattle.in_force.specs.Steps.{year_bias, shows_at, shown_of, candidates, year_candidates, shown_candidates}
use Rattle.in_force.proofs.biases.RaisedLaws.{inside}
use Rattle.in_force.proofs.rule_bias.YearLaws.{standard-ok, daylight-ok}
use Rattle.in_force.proofs.shown.YearLaws.{daylight-first, standard-first, one_only, year-shows, none-shown}

-- ---- from a to before b
module _ (k : YearBias) (l a b : ℕ) (s-ok : in_bias_range k.standard ≡ true) (d-ok : in_bias_range k.daylight ≡ true) (late : 864000000000 ≤ a) where
  abbrev x : ℕ
  x = plus_bias l k.daylight

  abbrev y : ℕ
  y = plus_bias l k.standard

  abbrev light : ℕ → Bool
  light = daylight_between k.daylight_start k.standard_start

  pub candidates-are : candidates k a b l ≡ among (shows_at k l) a b
  unfolding candidates
  candidates-are = go (ltb x y) refl (ltb y x) refl
    where
      go : (c : Bool) → ltb x y ≡ c → (d : Bool) → ltb y x ≡ d → candidates k a b l ≡ among (shows_at k l) a b
      go true e d f = daylight-first k l a b s-ok d-ok late x y refl refl (light x) (light y) refl refl (candidates k a b l) (ltb-true x y e) (rw e)
      go false e true f = standard-first k l a b s-ok d-ok late x y refl refl (light x) (light y) refl refl (candidates k a b l) (ltb-true y x f) (rw (e, f))
      go false e false f =
          let g : y ≤ x = ltb-false x y e in
          let h : x ≤ y = ltb-false y x f in
          one_only k l a b s-ok d-ok late x y refl refl (light x) (light y) refl refl (candidates k a b l) (omega arith) (rw (e, f) (sym (append-none (cond (leb a x && ltb x b) (x ∷ []) []))))

  -- where the stretch holds a day before the local tick and a day after it, both of them are inside
  pub within-are : a ≤ l - day → l + day < b → shown_of k x true y true ≡ among (shows_at k l) a b
  unfolding candidates
  within-are low high = rw (inside l a b k.daylight d-ok low high, inside l a b k.standard s-ok low high) at candidates-are

-- ---- a year
pub year-candidates : (o : Option Rule) (y l : ℕ) → Checked o → year_candidates o y l ≡ year_ticks o y l
unfolding year_candidates year_ticks
year-candidates None y l c = go (within 1602 30827 y)
  where
    go : (b : Bool) → [] ≡ cond b (among (shows_under None l) (year_tick y) (year_tick (y + 1))) []
    go true = sym (none-shown l (year_tick y) (year_tick (y + 1)))
    go false = refl
year-candidates (Some r) y l c = go (within 1602 30827 y) refl
  where
    go : (b : Bool) → within 1602 30827 y ≡ b
        → cond b (candidates (year_bias y r) (year_tick y) (year_tick (y + 1)) l) [] ≡ cond b (among (shows_under (Some r) l) (year_tick y) (year_tick (y + 1))) []
    go true e =
        let h : 1602 ≤ y = leb-true 1602 y (both (leb 1602 y) (leb y 30827) e).0 in
        let late : 864000000000 ≤ year_tick y = omega (arith, ticks-rise 1602 y h, tick-1602) in
        candidates-are (year_bias y r) l (year_tick y) (year_tick (y + 1)) (standard-ok y r c) (daylight-ok y r c) late
        ∙ year-shows r y l (omega arith)
    go false e = refl

-- ---- THE LAW: what computes is all that the definition finds
pub shown-candidates : (o p : Option Rule) (l : ℕ) → Checked o → Checked p → shown_candidates o p l ≡ shown_ticks o p l
unfolding shown_candidates shown_ticks
shown-candidates o p l c d = go (eqb (year_of (l - day)) (year_of (l + day)))
  where
    first : year_candidates o (year_of (l - day)) l ≡ year_ticks o (year_of (l - day)) l
    first = year-candidates o (year_of (l - day)) l c

    go : (s : Bool)
        → cond s (year_candidates o (year_of (l - day)) l) (year_candidates o (year_of (l - day)) l ++ year_candidates p (year_of (l + day)) l)
        ≡ cond s (year_ticks o (year_of (l - day)) l) (year_ticks o (year_of (l - day)) l ++ year_ticks p (year_of (l + day)) l)
    go true = first
    go false = ap₂ ◌++◌ first (year-candidates p (year_of (l + day)) l d)
