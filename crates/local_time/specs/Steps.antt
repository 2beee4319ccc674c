-- The two conversions step by step: the row's checks, the tick as a number, the rules of one year or of two. No contract rests on these: the laws `local-is` and `utc-is` show that they come to the definitions.
use Rattle.std.specs.Prelude.{ℕ, ◌+◌, ◌-◌, Bool, true, false, cond, List, [], ◌∷◌, ℤ, pos, negsuc, leb, ltb, Option, Some, None, Result, Ok, Err}
use Rattle.refusal.specs.declared.Refusal.TheVariants.{OutOfRange, BeforeFirstRule}
use Rattle.refusal.specs.declared.Refusal.{Refusal}
use Rattle.days.specs.Ticks.{day, year_of, day_in_year}
use Rattle.struct_slices.specs.Guarded.{guarded}
use Rattle.zone.specs.declared.rules.Rule.{Rule}
use Rattle.zone.specs.declared.ticks.UtcTick.{UtcTick}
use Rattle.zone.specs.declared.ticks.LocalTick.{LocalTick}
use Rattle.zone.specs.Ticks.{utc_tick, local_tick}
use Rattle.in_force.specs.Biases.{less_bias}
use Rattle.in_force.specs.RuleBias.{bias_of}
use Rattle.in_force.specs.Shown.{year_ticks, shown_ticks}
use Rattle.rows.specs.Search.{rule_in_force}
use Rattle.rows.specs.Steps.{checked_row}
use Rattle.in_force.specs.declared.shown.UpToFour.{UpToFour}
use Rattle.local_time.specs.LocalTime.{in_window}

-- A signed tick as a number: 2^63, which is past every tick, for a negative one. No signed tick is above 2^63 - 1.
abbrev pub at_most : ℕ → ℕ → ℕ
at_most m n = cond (leb n m) n m

unfoldable pub count_of : ℤ → ℕ
count_of (pos n) = at_most 9223372036854775807 n
count_of (negsuc n) = 9223372036854775808

-- ---- the checks
abbrev pub check_at : List Rule → ℕ → Result (Unit {0}) Refusal
check_at row u = checked_row row

abbrev pub is_refused : Result (Unit {0}) Refusal → Bool
is_refused (Err why) = true
is_refused (Ok tt) = false

-- ---- UTC to local
unfoldable pub local_by : Rule → ℕ → Result LocalTick Refusal
local_by r u = Ok (local_tick (less_bias u (bias_of r u)))

abbrev pub local_found : Option Rule → ℕ → Result LocalTick Refusal
local_found (Some r) u = local_by r u
local_found None u = Err BeforeFirstRule

unfoldable pub local_under : Option Rule → ℕ → Result LocalTick Refusal
local_under f u = cond (in_window u) (local_found f u) (Err OutOfRange)

abbrev pub local_in : List Rule → ℕ → Result LocalTick Refusal
local_in row u = local_under (rule_in_force row (year_of u)) u

abbrev pub local_refused : Result (Unit {0}) Refusal → ℕ → Result LocalTick Refusal
local_refused (Err why) u = Err why
local_refused (Ok tt) u = Err OutOfRange

abbrev pub local_at : List Rule → ℕ → Result LocalTick Refusal
local_at row u = guarded check_at is_refused local_refused local_in row u

-- ---- local to UTC
-- a local tick, and the rule in force in the UTC year of a day before it
pub record Earlier : Type 0 where
  pub rule : Option Rule
  pub tick : ℕ

-- a list of up to four ticks
abbrev pub as_utc : List ℕ → Result (UpToFour UtcTick) Refusal
as_utc [] = Ok UpToFour.None
as_utc (a ∷ []) = Ok (UpToFour.One (utc_tick a))
as_utc (a ∷ b ∷ []) = Ok (UpToFour.Two (utc_tick a) (utc_tick b))
as_utc (a ∷ b ∷ c ∷ []) = Ok (UpToFour.Three (utc_tick a) (utc_tick b) (utc_tick c))
as_utc (a ∷ b ∷ c ∷ d ∷ []) = Ok (UpToFour.Four (utc_tick a) (utc_tick b) (utc_tick c) (utc_tick d))
as_utc (a ∷ b ∷ c ∷ d ∷ e ∷ l) = Ok UpToFour.None

unfoldable pub utc_under : Option Rule → Earlier → Result (UpToFour UtcTick) Refusal
utc_under later e =
    cond (ltb 9223372036854775807 e.tick)
    (Err OutOfRange)
    (as_utc (shown_ticks e.rule later e.tick))

abbrev pub earlier_in : List Rule → ℕ → Earlier
earlier_in row n = record { rule = rule_in_force row (year_of (n - day)); tick = n }

abbrev pub later_in : List Rule → Earlier → Result (UpToFour UtcTick) Refusal
later_in row e = utc_under (rule_in_force row (year_of (e.tick + day))) e

abbrev pub utc_in : List Rule → ℕ → Result (UpToFour UtcTick) Refusal
utc_in row n = later_in row (earlier_in row n)

-- where a day before the local tick is not in the last two days of its year, a day after it lies in that year too, and its rule alone counts
unfoldable pub is_one_year : Earlier → Bool
is_one_year e = cond (ltb 9223372036854775807 e.tick) false (leb (day_in_year (e.tick - day)) 362)

unfoldable pub utc_in_one_year : Earlier → ℕ → Result (UpToFour UtcTick) Refusal
utc_in_one_year e n = as_utc (year_ticks e.rule (year_of (e.tick - day)) e.tick)

abbrev pub utc_found : List Rule → ℕ → Result (UpToFour UtcTick) Refusal
utc_found row n = guarded earlier_in is_one_year utc_in_one_year utc_in row n

abbrev pub utc_refused : Result (Unit {0}) Refusal → ℕ → Result (UpToFour UtcTick) Refusal
utc_refused (Err why) n = Err why
utc_refused (Ok tt) n = Err OutOfRange

abbrev pub utc_at : List Rule → ℕ → Result (UpToFour UtcTick) Refusal
utc_at row n = guarded check_at is_refused utc_refused utc_found row n
