-- Over a stretch the bias stays: it changes only at D, at S and at a new year.
use Rattle.std.proofs.Common.{◌≡◌, ℕ, ◌+◌, ◌<◌, ◌≤◌, Bool, true, false, cond, ◌&&◌, ltb, leb, sym, refl, ap, ◌∙◌, subst, add-one, arith, ltb-false, ltb-true, le-ltb, lt-ltb, le-leb, leb-false, leb-true}
use borrow.Author.Tests.{lt-leb}
use Rattle.days.specs.Ticks.{year_of, year_tick}
use Rattle.days.proofs.ticks.YearTicks.{TickInYear, year-bounds, year-is}
use Rattle.zone.specs.declared.rules.Rule.{Rule}
use Rattle.in_force.specs.declared.rule_bias.YearBias.{YearBias}
use Rattle.in_force.specs.declared.stretches.Stretch.{Stretch}
use Rattle.zone.specs.Dates.{is_set}
use Rattle.zone.specs.Rules.{standard_sum, daylight_sum}
use Rattle.in_force.specs.Switches.{switches_in}
use Rattle.in_force.specs.RuleBias.{daylight_between, is_daylight, bias_of}
use Rattle.in_force.specs.Stretches.{sooner_after, next_change, stretch_end, stretch_in}
use Rattle.in_force.specs.Steps.{year_bias, bias_at}
use Rattle.in_force.proofs.rule_bias.YearLaws.{daylight-in, bias-in}

-- from u to before its end a stretch holds what it says
pub record StretchOf (r : Rule) (y u : ℕ) (s : Stretch) : Type 0 where
  pub after : u < s.end
  pub up_to : s.end ≤ year_tick (y + 1)
  pub bias_stays : (t : ℕ) → u ≤ t → t < s.end → bias_of r t ≡ s.bias
  pub daylight_stays : (t : ℕ) → u ≤ t → t < s.end → is_daylight r t ≡ s.daylight

-- ---- years
-- a tick from u on and before the year's end is of u's year
pub same-year : (y u t : ℕ) → year_of u ≡ y → u ≤ t → t < year_tick (y + 1) → year_of t ≡ y
same-year y u t e h g =
    let b : TickInYear u y = subst (λ (z : ℕ). TickInYear u z) e (year-bounds u) in
    year-is t y (record { from = b.from; low = omega (arith, b.low); high = rw add-one at g })

pub before-end : (u y : ℕ) → year_of u ≡ y → u < year_tick (y + 1)
before-end u y e = rw (add-one, ← e) (year-bounds u).high

-- ---- the sooner of two ticks
record Sooner (u t e r : ℕ) : Type 0 where
  after : u < r
  up_to : r ≤ e
  not_past : u < t → r ≤ t

sooner : (u t e : ℕ) → u < e → Sooner u t e (sooner_after u t e)
unfolding sooner_after
sooner u t e h = go (ltb u t) (ltb t e) refl refl
  where
    go : (a b : Bool) → ltb u t ≡ a → ltb t e ≡ b → Sooner u t e (cond (ltb u t && ltb t e) t e)
    go true true p q =
        let f : u < t = ltb-true u t p in
        let g : t < e = ltb-true t e q in
        rw (p, q) (record { after = f; up_to = omega arith; not_past = λ k. omega arith })
    go true false p q =
        let g : e ≤ t = ltb-false t e q in
        rw (p, q) (record { after = h; up_to = omega arith; not_past = λ k. g })
    go false b p q =
        let f : t ≤ u = ltb-false u t p in
        rw p (record { after = h; up_to = omega arith; not_past = λ k. omega arith })

-- the end, as a rule's year has it: its two starts are 0 where it does not switch, and 0 lies after no tick
pub end-in : (r : Rule) (y u : ℕ) → sooner_after u (year_bias y r).daylight_start (sooner_after u (year_bias y r).standard_start (year_tick (y + 1))) ≡ stretch_end r y u
unfolding stretch_end year_bias sooner_after
end-in r y u = go (switches_in y r) refl
  where
    go : (c : Bool) → switches_in y r ≡ c
        → sooner_after u (year_bias y r).daylight_start (sooner_after u (year_bias y r).standard_start (year_tick (y + 1))) ≡ stretch_end r y u
    go true h = rw h
    go false h = rw (h, le-ltb u 0 (omega arith))

-- ---- between u and the next switch the tests stay
leb-stays : (D u t : ℕ) → u ≤ t → (u < D → t < D) → leb D t ≡ leb D u
leb-stays D u t h f = go (leb D u) refl
  where
    go : (b : Bool) → leb D u ≡ b → leb D t ≡ leb D u
    go true e = let g : D ≤ u = leb-true D u e in rw e (le-leb D t (omega arith))
    go false e = let g : u < D = leb-false D u e in rw e (lt-leb D t (f g))

ltb-stays : (S u t : ℕ) → u ≤ t → (u < S → t < S) → ltb t S ≡ ltb u S
ltb-stays S u t h f = go (ltb u S) refl
  where
    go : (b : Bool) → ltb u S ≡ b → ltb t S ≡ ltb u S
    go true e = let g : u < S = ltb-true u S e in rw e (lt-ltb t S (f g))
    go false e = let g : S ≤ u = ltb-false u S e in rw e (le-ltb t S (omega arith))

stays : (D S u t : ℕ) → u ≤ t → (u < D → t < D) → (u < S → t < S) → daylight_between D S t ≡ daylight_between D S u
stays D S u t h f g = rw (leb-stays D u t h f, ltb-stays S u t h g)

-- up to the next change of a year the bias stays
pub record Change (k : YearBias) (u end r : ℕ) : Type 0 where
  pub after : u < r
  pub up_to : r ≤ end
  pub bias_stays : (t : ℕ) → u ≤ t → t < r → bias_at k t ≡ bias_at k u

pub change : (k : YearBias) (u end : ℕ) → u < end → Change k u end (next_change k u end)
unfolding bias_at
change k u end h =
    let a = sooner u k.standard_start end h in
    let b = sooner u k.daylight_start (sooner_after u k.standard_start end) a.after in
    record {
      after = b.after;
      up_to = omega (arith, a.up_to, b.up_to);
      bias_stays = λ t l m. ap (λ c. cond c k.daylight k.standard)
          (stays k.daylight_start k.standard_start u t l (λ g. omega (arith, b.not_past g)) (λ g. omega (arith, b.up_to, a.not_past g)));
    }

-- the bias depends on the tick only by whether it is daylight time
bias-by : (r : Rule) (t u : ℕ) → is_daylight r t ≡ is_daylight r u → bias_of r t ≡ bias_of r u
unfolding bias_of
bias-by r t u e = ap (λ b. cond (is_set r.standard_date) (cond b (daylight_sum r) (standard_sum r)) r.bias) e

pub stretch : (r : Rule) (y u : ℕ) → year_of u ≡ y → StretchOf r y u (stretch_in r y u)
unfolding stretch_in
stretch r y u q = record { after = rw e at b.after; up_to = up_to; bias_stays = λ t h k. bias-by r t u (same t h k); daylight_stays = same }
  where
    D : ℕ
    D = (year_bias y r).daylight_start

    S : ℕ
    S = (year_bias y r).standard_start

    a : Sooner u S (year_tick (y + 1)) (sooner_after u S (year_tick (y + 1)))
    a = sooner u S (year_tick (y + 1)) (before-end u y q)

    b : Sooner u D (sooner_after u S (year_tick (y + 1))) (sooner_after u D (sooner_after u S (year_tick (y + 1))))
    b = sooner u D (sooner_after u S (year_tick (y + 1))) a.after

    e : sooner_after u D (sooner_after u S (year_tick (y + 1))) ≡ stretch_end r y u
    e = end-in r y u

    up_to : stretch_end r y u ≤ year_tick (y + 1)
    up_to = omega (arith, e, a.up_to, b.up_to)

    same : (t : ℕ) → u ≤ t → t < stretch_end r y u → is_daylight r t ≡ is_daylight r u
    same t h k =
        daylight-in r y t (same-year y u t q h (omega (arith, up_to)))
        ∙ stays D S u t h (λ g. omega (arith, e, b.not_past g)) (λ g. omega (arith, e, b.up_to, a.not_past g))
        ∙ sym (daylight-in r y u q)

-- as the code has it
pub stretch-is : (r : Rule) (y u : ℕ) (k : YearBias) (s : Stretch) → year_of u ≡ y → k ≡ year_bias y r → s.bias ≡ bias_at k u
    → s.daylight ≡ daylight_between k.daylight_start k.standard_start u
    → s.end ≡ sooner_after u k.daylight_start (sooner_after u k.standard_start (year_tick (y + 1))) → s ≡ stretch_in r y u
unfolding stretch_in
stretch-is r y u k s q ek b d e =
    let b' : s.bias ≡ bias_of r u = b ∙ ap (λ (z : YearBias). bias_at z u) ek ∙ sym (bias-in r y u q) in
    let d' : s.daylight ≡ is_daylight r u = d ∙ ap (λ (z : YearBias). daylight_between z.daylight_start z.standard_start u) ek ∙ sym (daylight-in r y u q) in
    let e' : s.end ≡ stretch_end r y u = e ∙ ap (λ (z : YearBias). sooner_after u z.daylight_start (sooner_after u z.standard_start (year_tick (y + 1)))) ek ∙ end-in r y u in
    rw (← b', ← d', ← e')
