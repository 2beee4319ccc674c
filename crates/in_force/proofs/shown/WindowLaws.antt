-- The ticks of two UTC years that show a local tick are all ticks of the window that show it, whatever rule is in force in each year.
use Rattle.std.proofs.Common.{◌≡◌, ℕ, suc, ◌+◌, ◌-◌, ◌<◌, ◌≤◌, Bool, true, false, cond, ◌&&◌, eqb, ltb, leb, List, [], ◌++◌, sym, refl, ap, ◌∙◌, subst, ap₂, add-one, arith, ltb-false, ltb-true, lt-ltb, eqb-true, le-leb, leb-false, leb-true}
use mathlib.Core.Bool.{false≢true}
use borrow.Author.Tests.{eqb-false}
use Rattle.std.specs.Prelude.{Option, Some, None}
use Rattle.refusal.proofs.Tests.{and-true, both}
use Rattle.days.specs.Counting.{among}
use Rattle.days.specs.Ticks.{day, year_of, year_tick}
use Rattle.days.proofs.Counting.{among_same, among_none, among-split, among-cut, append-none, not-true}
use Rattle.days.proofs.ticks.YearTicks.{TickInYear, year-bounds, year-is, year-order, two-years, ticks-rise, tick-1602, tick-30828}
use Rattle.calendar.specs.Ranges.{within}
use Rattle.zone.specs.declared.rules.Rule.{Rule}
use Rattle.zone.specs.Ticks.{window_start, window_end}
use Rattle.in_force.specs.RuleBias.{bias_of}
use Rattle.in_force.specs.Shown.{Checked, shows_under, year_ticks, shown_ticks}
use Rattle.in_force.proofs.biases.RaisedLaws.{near}
use Rattle.in_force.proofs.rule_bias.YearLaws.{bias-ok}

-- a checked rule's bias is in range, so a tick shows a local tick at most a day away
pub near-under : (o : Option Rule) (l u : ℕ) → Checked o → shows_under o l u ≡ true → (l - day ≤ u) × (u ≤ l + day)
unfolding shows_under
near-under None l u c e = absurd (false≢true e)
near-under (Some r) l u c e = near u l (bias_of r u) (bias-ok r u c) (eqb-true _ _ e)

-- the years of the window
pub in_window : (u : ℕ) → window_start ≤ u → u < window_end → (1602 ≤ year_of u) × (year_of u ≤ 30827)
in_window u a b = (low (ltb (year_of u) 1602) refl, high (ltb 30827 (year_of u)) refl)
  where
    w : TickInYear u (year_of u)
    w = year-bounds u

    low : (c : Bool) → ltb (year_of u) 1602 ≡ c → 1602 ≤ year_of u
    low true e = let g : year_of u < 1602 = ltb-true (year_of u) 1602 e in absurd (omega (arith, w.high, ticks-rise (suc (year_of u)) 1602 (omega arith), tick-1602))
    low false e = ltb-false (year_of u) 1602 e

    high : (c : Bool) → ltb 30827 (year_of u) ≡ c → year_of u ≤ 30827
    high true e = let g : 30827 < year_of u = ltb-true 30827 (year_of u) e in absurd (omega (arith, w.low, ticks-rise 30828 (year_of u) (omega arith), tick-30828))
    high false e = ltb-false 30827 (year_of u) e

abbrev of_year : (ℕ → Bool) → ℕ → List ℕ
of_year q y = cond (within 1602 30827 y) (among q (year_tick y) (year_tick (y + 1))) []

-- a test that only ticks of year y pass
pub one-year : (p q : ℕ → Bool) (y : ℕ) → ((u : ℕ) → window_start ≤ u → u < window_end → p u ≡ true → year_of u ≡ y) → ((u : ℕ) → year_of u ≡ y → p u ≡ q u)
    → among p window_start window_end ≡ of_year q y
one-year p q y h f = go (leb 1602 y) (leb y 30827) refl refl
  where
    never : (a b : ℕ) → window_start ≤ a → b ≤ window_end → ((u : ℕ) → a ≤ u → u < b → year_of u ≡ y → ⊥) → among p a b ≡ []
    never a b ha hb n = among_none p a b (λ u l m. not-true (p u) (λ t. n u l m (h u (omega arith) (omega arith) t)))

    go : (c d : Bool) → leb 1602 y ≡ c → leb y 30827 ≡ d → among p window_start window_end ≡ of_year q y
    go false d e k =
        let g : y < 1602 = leb-false 1602 y e in
        rw e (never window_start window_end (omega arith) (omega arith) (λ u l m t. let i = in_window u l m in omega arith))
    go true false e k =
        let g : 30827 < y = leb-false y 30827 k in
        rw (e, k) (never window_start window_end (omega arith) (omega arith) (λ u l m t. let i = in_window u l m in omega arith))
    go true true e k =
        let g : 1602 ≤ y = leb-true 1602 y e in
        let i : y ≤ 30827 = leb-true y 30827 k in
        let a : window_start ≤ year_tick y = omega (arith, ticks-rise 1602 y g, tick-1602) in
        let b : year_tick (suc y) ≤ window_end = omega (arith, ticks-rise (suc y) 30828 (omega arith), tick-30828) in
        let m : year_tick y ≤ year_tick (suc y) = ticks-rise y (suc y) (omega arith) in
        rw (e, k, add-one)
        (among-split p window_start (year_tick y) window_end a (omega arith)
        ∙ ap (λ z. z ++ among p (year_tick y) window_end)
        (never window_start (year_tick y) (omega arith) (omega arith) (λ u l n t. let w : TickInYear u y = subst (λ (z : ℕ). TickInYear u z) t (year-bounds u) in omega (arith, w.low)))
        ∙ among-split p (year_tick y) (year_tick (suc y)) window_end m b
        ∙ ap (λ z. among p (year_tick y) (year_tick (suc y)) ++ z)
        (never (year_tick (suc y)) window_end (omega arith) (omega arith) (λ u l n t. let w : TickInYear u y = subst (λ (z : ℕ). TickInYear u z) t (year-bounds u) in omega (arith, w.high)))
        ∙ append-none (among p (year_tick y) (year_tick (suc y)))
        ∙ among_same p q (year_tick y) (year_tick (suc y)) (λ u l n. f u (year-is u y (record { from = omega arith; low = l; high = n }))))

-- ---- a rule in force in each year, each of them checked
module _ (rule_in : ℕ → Option Rule) (l : ℕ) (ok : (y : ℕ) → Checked (rule_in y)) where
  abbrev first : ℕ
  first = year_of (l - day)

  abbrev second : ℕ
  second = year_of (l + day)

  abbrev shows : ℕ → Bool
  shows u = shows_under (rule_in (year_of u)) l u

  near-years : (u : ℕ) → shows u ≡ true → (first ≤ year_of u) × (year_of u ≤ second)
  near-years u t =
      let n = near-under (rule_in (year_of u)) l u (ok (year_of u)) t in
      (year-order (l - day) u n.0, year-order u (l + day) n.1)

  in-year : (u y : ℕ) → year_of u ≡ y → shows u ≡ shows_under (rule_in y) l u
  in-year u y e = ap (λ (z : ℕ). shows_under (rule_in z) l u) e

  before-cut : (u : ℕ) → (first ≤ year_of u) × (year_of u ≤ second) → u < year_tick (suc first) → year_of u ≡ first
  before-cut u n h = go (ltb first (year_of u)) refl
    where
      go : (c : Bool) → ltb first (year_of u) ≡ c → year_of u ≡ first
      go true e = let g : first < year_of u = ltb-true first (year_of u) e in absurd (omega (arith, (year-bounds u).low, ticks-rise (suc first) (year_of u) (omega arith)))
      go false e = let g : year_of u ≤ first = ltb-false first (year_of u) e in omega arith

  after-cut : (u : ℕ) → second ≡ suc first → (first ≤ year_of u) × (year_of u ≤ second) → year_tick (suc first) ≤ u → year_of u ≡ second
  after-cut u z n h = go (ltb first (year_of u)) refl
    where
      go : (c : Bool) → ltb first (year_of u) ≡ c → year_of u ≡ second
      go true e = let g : first < year_of u = ltb-true first (year_of u) e in omega arith
      go false e = let g : year_of u ≤ first = ltb-false first (year_of u) e in absurd (omega (arith, (year-bounds u).high, ticks-rise (suc (year_of u)) (suc first) (omega arith)))

  pub shown-window : shown_ticks (rule_in first) (rule_in second) l ≡ among shows window_start window_end
  unfolding shown_ticks year_ticks
  shown-window = go (eqb first second) refl
    where
      close : first ≤ second
      close = year-order (l - day) (l + day) (omega arith)

      apart : second ≤ suc first
      apart = two-years (l - day) (l + day) (omega arith)

      go : (c : Bool) → eqb first second ≡ c
          → cond c (of_year (shows_under (rule_in first) l) first) (of_year (shows_under (rule_in first) l) first ++ of_year (shows_under (rule_in second) l) second) ≡ among shows window_start window_end
      go true e =
          let s : first ≡ second = eqb-true first second e in
          sym (one-year shows (shows_under (rule_in first) l) first (λ u a b t. let n = near-years u t in omega arith) (λ u y. in-year u first y))
      go false e =
          let s : first ≡ second → ⊥ = eqb-false first second e in
          let z : second ≡ suc first = omega (arith, close, apart) in
          let b : ℕ = year_tick (suc first) in
          sym (among-cut shows window_start window_end b (omega arith)
          ∙ ap₂ ◌++◌
          (one-year (λ u. shows u && ltb u b) (shows_under (rule_in first) l) first
          (λ u a c t. let q = both (shows u) (ltb u b) t in before-cut u (near-years u q.0) (ltb-true u b q.1))
          (λ u y. ap (λ (c : Bool). shows u && c) (lt-ltb u b (subst (λ (k : ℕ). u < year_tick (suc k)) y (year-bounds u).high)) ∙ and-true (shows u) ∙ in-year u first y))
          (one-year (λ u. shows u && leb b u) (shows_under (rule_in second) l) second
          (λ u a c t. let q = both (shows u) (leb b u) t in after-cut u z (near-years u q.0) (leb-true b u q.1))
          (λ u y. ap (λ (c : Bool). shows u && c) (le-leb b u (subst (λ (k : ℕ). year_tick k ≤ u) (y ∙ z) (year-bounds u).low)) ∙ and-true (shows u) ∙ in-year u second y)))
