-- The ticks that show a local tick are at most two of a year and four in all, and each is before the end of the window.
use Rattle.std.specs.Prelude.{Option, Some, None}
use Rattle.std.proofs.Common.{◌≡◌, ℕ, ◌+◌, ◌-◌, ◌<◌, ◌≤◌, Bool, true, false, cond, eqb, leb, List, [], ◌∷◌, ◌++◌, length, refl, inl, inr, arith, length-append, leb-true}
use Rattle.refusal.proofs.Tests.{both}
use Rattle.days.specs.Counting.{among, count_among, In}
use Rattle.days.specs.Ticks.{day, year_of, year_tick}
use Rattle.days.proofs.Counting.{count-two, in-among}
use Rattle.days.proofs.ticks.YearTicks.{ticks-rise, tick-1602, tick-small}
use Rattle.calendar.specs.Ranges.{within}
use Rattle.zone.specs.declared.rules.Rule.{Rule}
use Rattle.zone.specs.Ticks.{window_end}
use Rattle.in_force.specs.declared.rule_bias.YearBias.{YearBias}
use Rattle.in_force.specs.Biases.{plus_bias}
use Rattle.in_force.specs.Shown.{Checked, shows_under, year_ticks, shown_ticks, Inside}
use Rattle.in_force.specs.Steps.{year_bias, shows_at}
use Rattle.in_force.proofs.rule_bias.YearLaws.{standard-ok, daylight-ok}
use Rattle.in_force.proofs.shown.YearLaws.{only, year-shows, none-shown}

-- ---- without a rule there is none
pub no-rule-ticks : (y l : ℕ) → year_ticks None y l ≡ []
unfolding year_ticks
no-rule-ticks y l = go (within 1602 30827 y)
  where
    go : (b : Bool) → cond b (among (shows_under None l) (year_tick y) (year_tick (y + 1))) [] ≡ []
    go true = none-shown l (year_tick y) (year_tick (y + 1))
    go false = refl

-- ---- how many they are
year-two : (o : Option Rule) (y l : ℕ) → Checked o → 1602 ≤ y → count_among (shows_under o l) (year_tick y) (year_tick (y + 1)) ≤ 2
year-two None y l c h = rw (none-shown l (year_tick y) (year_tick (y + 1))) (omega arith)
year-two (Some r) y l c h =
    let k : YearBias = year_bias y r in
    let late : 864000000000 ≤ year_tick y = omega (arith, ticks-rise 1602 y h, tick-1602) in
    rw (← year-shows r y l (omega arith))
    (count-two (shows_at k l) (year_tick y) (year_tick (y + 1)) (plus_bias l k.daylight) (plus_bias l k.standard)
    (λ z p q t. only k l (year_tick y) (year_tick (y + 1)) (standard-ok y r c) (daylight-ok y r c) late z p t))

-- at most two of a year
pub two-at-most : (o : Option Rule) (y l : ℕ) → Checked o → length (year_ticks o y l) ≤ 2
unfolding year_ticks
two-at-most o y l c = go (within 1602 30827 y) refl
  where
    go : (b : Bool) → within 1602 30827 y ≡ b → length (cond b (among (shows_under o l) (year_tick y) (year_tick (y + 1))) []) ≤ 2
    go true e = year-two o y l c (leb-true 1602 y (both (leb 1602 y) (leb y 30827) e).0)
    go false e = omega arith

-- at most four in all
pub four-at-most : (o p : Option Rule) (l : ℕ) → Checked o → Checked p → length (shown_ticks o p l) ≤ 4
unfolding shown_ticks
four-at-most o p l c d = go (eqb (year_of (l - day)) (year_of (l + day)))
  where
    go : (s : Bool) → length (cond s (year_ticks o (year_of (l - day)) l) (year_ticks o (year_of (l - day)) l ++ year_ticks p (year_of (l + day)) l)) ≤ 4
    go true = omega (arith, two-at-most o (year_of (l - day)) l c)
    go false = rw length-append (omega (arith, two-at-most o (year_of (l - day)) l c, two-at-most p (year_of (l + day)) l d))

-- ---- where they are
inside-each : (l : List ℕ) → ((u : ℕ) → In u l → u < window_end) → Inside l
inside-each [] h = tt
inside-each (u ∷ l) h = (h u (inl refl), inside-each l (λ v m. h v (inr m)))

inside-append : (l m : List ℕ) → Inside l → Inside m → Inside (l ++ m)
inside-append [] m h k = k
inside-append (u ∷ l) m h k = (h.0, inside-append l m h.1 k)

pub year-inside : (o : Option Rule) (y l : ℕ) → Inside (year_ticks o y l)
unfolding year_ticks
year-inside o y l = go (within 1602 30827 y) refl
  where
    go : (b : Bool) → within 1602 30827 y ≡ b → Inside (cond b (among (shows_under o l) (year_tick y) (year_tick (y + 1))) [])
    go true e =
        let h : y ≤ 30827 = leb-true y 30827 (both (leb 1602 y) (leb y 30827) e).1 in
        inside-each (among (shows_under o l) (year_tick y) (year_tick (y + 1)))
        (λ u m. omega (arith, in-among (shows_under o l) (year_tick y) (year_tick (y + 1)) u m, tick-small (y + 1) (omega arith)))
    go false e = tt

-- each before the end of the window
pub shown-inside : (o p : Option Rule) (l : ℕ) → Inside (shown_ticks o p l)
unfolding shown_ticks
shown-inside o p l = go (eqb (year_of (l - day)) (year_of (l + day)))
  where
    go : (s : Bool) → Inside (cond s (year_ticks o (year_of (l - day)) l) (year_ticks o (year_of (l - day)) l ++ year_ticks p (year_of (l + day)) l))
    go true = year-inside o (year_of (l - day)) l
    go false = inside-append (year_ticks o (year_of (l - day)) l) (year_ticks p (year_of (l + day)) l) (year-inside o (year_of (l - day)) l) (year-inside p (year_of (l + day)) l)
