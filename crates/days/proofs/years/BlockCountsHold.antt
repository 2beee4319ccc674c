-- R-4 of document 02, by the laws about blocks and by computing.
use Prim.Native.Nat.{ℕ, ◌/◌, ◌≤◌}
use mathlib.Core.Path.{refl}
use native.Mathlib.Omega.{arith}
use Rattle.days.specs.Years.{leap, days_in_year, days_of_years}
use Rattle.days.specs.Months.{days_in_month, days_of_months}
use Rattle.days.specs.Steps.{blocks_of}
use Rattle.days.specs.Ticks.{day}
use Rattle.days.specs.BlockCounts.{time_blocks, FewBlocks, blocks, Takes, BlockCounts, BlockExamples}
use Rattle.days.proofs.years.Closed.{closed, years-closed}
use Rattle.days.proofs.years.Blocks.{are-blocks, blocks-lead}

few : (t : ℕ) → t ≤ 9223372036854775807 → FewBlocks (time_blocks t)
few t h =
    let k = are-blocks (t / day) _ refl in
    record { by400 = omega (arith, k.whole); by100 = k.b3; by4 = k.c24; by1 = k.d3 }

-- THE LAW (R-4 of document 02): no TIME takes more than 73 blocks of 400 years, 3 of 100, 24 of 4 and 3 of 1, and each of these is reached
pub block-counts : BlockCounts 9223372036854775807
unfolding blocks_of days_of_years days_in_year leap days_of_months days_in_month
block-counts = record { found = λ t. blocks-lead (t / day) _ refl; few = few; reached400 = refl; reached = refl }

-- by the closed form, since the walk over 29,000 years is long
late : Takes 30800 12 31 (blocks 72 3 24 3 365) × Takes 30801 1 1 (blocks 73 0 0 0 0) × Takes 30828 9 14 (blocks 73 0 6 3 257)
unfolding blocks_of days_of_months days_in_month leap
late = (
  rw (years-closed 29199) (unfold closed days_of_years days_in_year in refl),
  rw (years-closed 29200) (unfold closed days_of_years days_in_year in refl),
  rw (years-closed 29227) (unfold closed days_of_years days_in_year in refl),
)

pub block-examples : BlockExamples
unfolding blocks_of days_of_years days_in_year leap days_of_months days_in_month
block-examples = (refl, refl, refl, refl, refl, refl, refl, refl, refl, refl, refl, late.0, late.1, late.2)
