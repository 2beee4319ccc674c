-- All the time of a tally, and its hours and minutes, are numbers of 64 bits.
use Prim.Native.Nat.{ℕ, ◌^◌, ◌<◌}
use mathlib.Core.Path.{◌≡◌, refl}
use mathlib.Core.Bool.{Bool, true, false, cond}
use native.Mathlib.Omega.{arith}
use lib.ListN.{get_or}
use Rattle.totals.specs.Totals.{sum}
use Rattle.tally.specs.declared.tallies.Tally.{Tally}
use Rattle.tally.specs.Tallies.{holds}
use Rattle.tally.proofs.tallies.HoldingLaws.{holding}
use Rattle.sheet.specs.Hours.{time_run}

-- the totals of a tally that holds add up to less than 2 ^ 63
pub sum_fits : (t : Tally) → holds t ≡ true → sum t.totals < 2 ^ 64
sum_fits t e = let h = holding t e in omega (arith, h.spent, h.span.stop)

run_by : (t : Tally) (b : Bool) → holds t ≡ b → cond b (sum t.totals) 0 < 2 ^ 64
run_by t true e = sum_fits t e
run_by t false e = omega arith

pub run_fits : (t : Tally) → time_run t < 2 ^ 64
run_fits t = run_by t (holds t) refl

-- each total is a number of 64 bits
abbrev pub Whole : Tally → Type 0
Whole t = (i : ℕ) → get_or t.totals i 0 < 2 ^ 64
