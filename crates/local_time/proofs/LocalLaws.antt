-- UTC to local, under the rule in force.
use Prim.Native.Nat.{ℕ, ◌≤◌, ◌<◌}
use mathlib.Core.Path.{◌≡◌}
use mathlib.Core.Bool.{true}
use mathlib.Core.List.{List}
use native.Mathlib.Omega.{arith}
use lib.IntN.{ℤ, pos, negsuc}
use borrow.Author.Tests.{ltb-true}
use Rattle.std.specs.Prelude.{Some, None}
use Rattle.refusal.specs.Outcome.{Outcome, refused, answered, require, ◌>>=◌, ◌>>◌}
use Rattle.days.specs.Ticks.{year_of}
use Rattle.calendar.specs.Fields.{not_negative}
use Rattle.zone.specs.declared.rules.Rule.{Rule}
use Rattle.zone.specs.declared.ticks.UtcTick.{UtcTick}
use Rattle.zone.specs.declared.ticks.LocalTick.{LocalTick}
use Rattle.zone.specs.Biases.{in_bias_range}
use Rattle.zone.specs.Ticks.{window_end, local_tick}
use Rattle.in_force.specs.Biases.{less_bias}
use Rattle.in_force.specs.RuleBias.{bias_of}
use Rattle.rows.specs.Row.{check_row}
use Rattle.rows.specs.Search.{rule_in_force, has_rule, bias_in_force, local_of}
use Rattle.local_time.specs.LocalTime.{in_window, utc_to_local}

-- a local tick of the window is below 2^63
pub local-small : (u : ℕ) (b : ℤ) → in_bias_range b ≡ true → u < window_end → less_bias u b ≤ 9223372036854775807
local-small u (pos n) e h = omega arith
local-small u (negsuc n) e h = let g : n < 1440 = ltb-true n 1440 e in omega arith

-- UTC to local after the row's checks
abbrev pub after_row : List Rule → ℤ → Outcome LocalTick
after_row row z = do
  u ← not_negative z
  require (in_window u) 15
  require (has_rule row u) 16
  answered (local_tick (local_of row u))

-- ---- the whole, as the code comes to it
module _ (row : List Rule) (t : UtcTick) (u : ℕ) (ok : check_row row ≡ answered tt) (tick : answered u ≡ not_negative t.0) (inside : true ≡ in_window u) where
  pub none-in-force : None ≡ rule_in_force row (year_of u) → refused 16 ≡ utc_to_local row t
  unfolding utc_to_local
  none-in-force e = rw (ok, ← tick, ← inside, ← e)

  pub rule-in-force : (r : Rule) → Some r ≡ rule_in_force row (year_of u) → answered (local_tick (less_bias u (bias_of r u))) ≡ utc_to_local row t
  unfolding utc_to_local bias_in_force
  rule-in-force r e = rw (ok, ← tick, ← inside, ← e)
