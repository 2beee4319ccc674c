-- The ticks of a year that show a local tick: at most one in daylight time, and at most one outside it.
use Rattle.std.specs.Prelude.{Option, Some, None}
use Rattle.std.proofs.Common.{◌≡◌, ℕ, ◌+◌, ◌-◌, ◌<◌, ◌≤◌, Bool, true, false, cond, not, ◌&&◌, eqb, ltb, leb, ◌⊎◌, List, [], ◌∷◌, ◌++◌, ℤ, sym, refl, ap, ◌∙◌, ap₂, inl, inr, ⊎_elim, add-one, arith, eq-eqb, ne_eqb, eqb-true, leb-true}
use Rattle.refusal.proofs.Tests.{and-true}
use Rattle.days.specs.Counting.{among}
use Rattle.days.specs.Ticks.{day, year_of, year_tick}
use Rattle.days.proofs.Counting.{pick, among_same, among_none, among-only, among-only-two, append-none}
use Rattle.days.proofs.ticks.YearTicks.{year-is}
use Rattle.zone.specs.declared.rules.Rule.{Rule}
use Rattle.in_force.specs.declared.rule_bias.YearBias.{YearBias}
use Rattle.zone.specs.Biases.{in_bias_range}
use Rattle.in_force.specs.Biases.{plus_bias, less_bias}
use Rattle.in_force.specs.RuleBias.{daylight_between, bias_of}
use Rattle.in_force.specs.Shown.{shows_under, year_ticks, shown_ticks}
use Rattle.in_force.specs.Steps.{year_bias, bias_at, shows_at}
use Rattle.in_force.proofs.biases.RaisedLaws.{to-utc, to-local}
use Rattle.in_force.proofs.rule_bias.YearLaws.{bias-in}

-- ---- from a to before b: x shows l in daylight time, y else
agree : (c d e f : Bool) → (c ≡ true → e ≡ f) → (c && (d && e)) ≡ ((c && d) && f)
agree true true e f h = h refl
agree true false e f h = refl
agree false d e f h = refl

module _ (k : YearBias) (l a b : ℕ) (s-ok : in_bias_range k.standard ≡ true) (d-ok : in_bias_range k.daylight ≡ true) (late : 864000000000 ≤ a) where
  abbrev light : ℕ → Bool
  light = daylight_between k.daylight_start k.standard_start

  -- a tick that shows l is one of two
  pub only : (z : ℕ) → a ≤ z → shows_at k l z ≡ true → (z ≡ plus_bias l k.daylight) ⊎ (z ≡ plus_bias l k.standard)
  unfolding shows_at bias_at
  only z h t = go (light z) (eqb-true _ _ t)
    where
      go : (c : Bool) → less_bias z (cond c k.daylight k.standard) ≡ l → (z ≡ plus_bias l k.daylight) ⊎ (z ≡ plus_bias l k.standard)
      go true e = inl (to-utc z l k.daylight d-ok (omega arith) e)
      go false e = inr (to-utc z l k.standard s-ok (omega arith) e)

  at-daylight : (x : ℕ) → x ≡ plus_bias l k.daylight → (x ≡ plus_bias l k.standard → ⊥) → a ≤ x → shows_at k l x ≡ light x
  unfolding shows_at bias_at
  at-daylight x e n h = go (light x) refl
    where
      go : (c : Bool) → light x ≡ c → eqb (less_bias x (cond (light x) k.daylight k.standard)) l ≡ light x
      go true q = rw q (eq-eqb _ _ (to-local x l k.daylight d-ok (omega arith) e))
      go false q = rw q (ne_eqb _ _ (λ t. n (to-utc x l k.standard s-ok (omega arith) t)))

  at-standard : (x : ℕ) → x ≡ plus_bias l k.standard → (x ≡ plus_bias l k.daylight → ⊥) → a ≤ x → shows_at k l x ≡ not (light x)
  unfolding shows_at bias_at
  at-standard x e n h = go (light x) refl
    where
      go : (c : Bool) → light x ≡ c → eqb (less_bias x (cond (light x) k.daylight k.standard)) l ≡ not (light x)
      go true q = rw q (ne_eqb _ _ (λ t. n (to-utc x l k.daylight d-ok (omega arith) t)))
      go false q = rw q (eq-eqb _ _ (to-local x l k.standard s-ok (omega arith) e))

  at_both : (x : ℕ) → x ≡ plus_bias l k.standard → x ≡ plus_bias l k.daylight → a ≤ x → shows_at k l x ≡ true
  unfolding shows_at bias_at
  at_both x e f h = go (light x)
    where
      go : (c : Bool) → eqb (less_bias x (cond c k.daylight k.standard)) l ≡ true
      go true = eq-eqb _ _ (to-local x l k.daylight d-ok (omega arith) f)
      go false = eq-eqb _ _ (to-local x l k.standard s-ok (omega arith) e)

  -- what the test says of one of them
  picked : (x : ℕ) (t : Bool) → (a ≤ x → shows_at k l x ≡ t) → pick (shows_at k l) a b x ≡ cond ((leb a x && ltb x b) && t) (x ∷ []) []
  picked x t h = ap (λ (c : Bool). cond c (x ∷ []) []) (agree (leb a x) (ltb x b) (shows_at k l x) t (λ e. h (leb-true a x e)))

  -- as the code has it, with a name for what each step gave
  module _ (x y : ℕ) (ex : x ≡ plus_bias l k.daylight) (ey : y ≡ plus_bias l k.standard) (d e : Bool) (ed : d ≡ light x) (ee : e ≡ light y) (r : List ℕ) where
    pub daylight-first : x < y → r ≡ cond ((leb a x && ltb x b) && d) (x ∷ []) [] ++ cond ((leb a y && ltb y b) && not e) (y ∷ []) [] → r ≡ among (shows_at k l) a b
    daylight-first h er =
        er
        ∙ rw (ed, ee)
        (sym (among-only-two (shows_at k l) a b x y h (λ z p q t. ⊎_elim (λ e. inl (e ∙ sym ex)) (λ e. inr (e ∙ sym ey)) (only z p t))
        ∙ ap₂ ◌++◌ (picked x (light x) (at-daylight x ex (λ e. omega arith))) (picked y (not (light y)) (at-standard y ey (λ e. omega arith)))))

    pub standard-first : y < x → r ≡ cond ((leb a y && ltb y b) && not e) (y ∷ []) [] ++ cond ((leb a x && ltb x b) && d) (x ∷ []) [] → r ≡ among (shows_at k l) a b
    standard-first h er =
        er
        ∙ rw (ed, ee)
        (sym (among-only-two (shows_at k l) a b y x h (λ z p q t. ⊎_elim (λ e. inr (e ∙ sym ex)) (λ e. inl (e ∙ sym ey)) (only z p t))
        ∙ ap₂ ◌++◌ (picked y (not (light y)) (at-standard y ey (λ e. omega arith))) (picked x (light x) (at-daylight x ex (λ e. omega arith)))))

    pub one_only : x ≡ y → r ≡ cond (leb a x && ltb x b) (x ∷ []) [] ++ [] → r ≡ among (shows_at k l) a b
    one_only h er =
        er
        ∙ append-none (cond (leb a x && ltb x b) (x ∷ []) [])
        ∙ sym (among-only (shows_at k l) a b x (λ z p q t. ⊎_elim (λ e. e ∙ sym ex) (λ e. e ∙ sym ey ∙ sym h) (only z p t))
        ∙ picked x true (at_both x (h ∙ ey) ex)
        ∙ ap (λ (c : Bool). cond c (x ∷ []) []) (and-true (leb a x && ltb x b)))

-- ---- a year
pub year-shows : (r : Rule) (y l : ℕ) → 1601 ≤ y → among (shows_at (year_bias y r) l) (year_tick y) (year_tick (y + 1)) ≡ among (shows_under (Some r) l) (year_tick y) (year_tick (y + 1))
unfolding shows_at shows_under
year-shows r y l h =
    among_same (λ u. eqb (less_bias u (bias_at (year_bias y r) u)) l) (λ u. eqb (less_bias u (bias_of r u)) l) (year_tick y) (year_tick (y + 1))
    (λ u p q. ap (λ (z : ℤ). eqb (less_bias u z) l) (sym (bias-in r y u (year-is u y (record { from = h; low = p; high = rw add-one at q })))))

pub none-shown : (l a b : ℕ) → among (shows_under None l) a b ≡ []
unfolding shows_under
none-shown l a b = among_none (λ u. false) a b (λ x p q. refl)

-- ---- one year, or two
module _ (o p : Option Rule) (l y z : ℕ) (ey : y ≡ year_of (l - day)) (ez : z ≡ year_of (l + day)) where
  pub shown-one : (a r : List ℕ) → y ≡ z → a ≡ year_ticks o y l → r ≡ a ++ [] → r ≡ shown_ticks o p l
  unfolding shown_ticks
  shown-one a r e ea er = rw (← ey, ← ez, eq-eqb y z e, ← ea) (er ∙ append-none a)

  pub shown-two : (a b r : List ℕ) → (y ≡ z → ⊥) → a ≡ year_ticks o y l → b ≡ year_ticks p z l → r ≡ a ++ b → r ≡ shown_ticks o p l
  unfolding shown_ticks
  shown-two a b r e ea eb er = rw (← ey, ← ez, ne_eqb y z e, ← ea, ← eb) er
