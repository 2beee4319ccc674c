-- The UTC ticks that show a local tick, under the rules of one or two years.
use Rattle.std.specs.Prelude.{◌≡◌, ℕ, ◌+◌, ◌-◌, ◌<◌, Bool, false, cond, List, [], ◌∷◌, ◌++◌, ◌==◌, Option, Some, None}
use Rattle.refusal.specs.Outcome.{answered}
use Rattle.days.specs.Ticks.{day, year_of, year_tick}
use Rattle.days.specs.Counting.{among}
use Rattle.calendar.specs.Ranges.{within}
use Rattle.zone.specs.declared.rules.Rule.{Rule}
use Rattle.zone.specs.Ticks.{window_end}
use Rattle.in_force.specs.declared.shown.YearTicks.{YearTicks}
use Rattle.in_force.specs.declared.shown.UpToFour.{UpToFour}
use Rattle.in_force.specs.Biases.{less_bias}
use Rattle.zone.specs.Rules.{check_dates}
use Rattle.in_force.specs.RuleBias.{bias_of}

-- the ticks that an answer holds
abbrev pub ticks_of_year : YearTicks → List ℕ
ticks_of_year YearTicks.None = []
ticks_of_year (YearTicks.One a) = a ∷ []
ticks_of_year (YearTicks.Two a b) = a ∷ b ∷ []

abbrev pub ticks_of : {A : Type 0} → UpToFour A → List A
ticks_of UpToFour.None = []
ticks_of (UpToFour.One a) = a ∷ []
ticks_of (UpToFour.Two a b) = a ∷ b ∷ []
ticks_of (UpToFour.Three a b c) = a ∷ b ∷ c ∷ []
ticks_of (UpToFour.Four a b c d) = a ∷ b ∷ c ∷ d ∷ []

-- the rule in force, if there is one, passed its checks
abbrev pub Checked : Option Rule → Type 0
Checked None = Unit {0}
Checked (Some r) = check_dates r ≡ answered tt

-- u shows the local tick l under the rule in force, if there is one: local = UTC less the bias
unfoldable pub shows_under : Option Rule → ℕ → ℕ → Bool
shows_under None l u = false
shows_under (Some r) l u = less_bias u (bias_of r u) == l

-- the ticks of a year of the window that show a local tick
unfoldable pub year_ticks : Option Rule → ℕ → ℕ → List ℕ
year_ticks o y l = cond (within 1602 30827 y) (among (shows_under o l) (year_tick y) (year_tick (y + 1))) []

-- those of the UTC years of a day before l and of a day after it, under a rule for each of the two
unfoldable pub shown_ticks : Option Rule → Option Rule → ℕ → List ℕ
shown_ticks o p l =
    cond (year_of (l - day) == year_of (l + day))
    (year_ticks o (year_of (l - day)) l)
    (year_ticks o (year_of (l - day)) l ++ year_ticks p (year_of (l + day)) l)

-- each tick is before the end of the window
abbrev pub Inside : List ℕ → Type 0
Inside [] = Unit {0}
Inside (u ∷ l) = (u < window_end) × Inside l
