-- How many blocks of years the code takes for the year of a TIME (R-4 of document 02), and which ones on both sides of their borders.
use Rattle.std.specs.Prelude.{ℕ, ◌*◌, ◌/◌, ◌≤◌, ◌≡◌}
use Rattle.days.specs.declared.years.YearBlocks.{YearBlocks}
use Rattle.days.specs.Years.{year_day}
use Rattle.days.specs.Dates.{day_number}
use Rattle.days.specs.Steps.{blocks_of, after_blocks}
use Rattle.days.specs.Ticks.{day}

abbrev pub time_blocks : ℕ → YearBlocks
time_blocks t = blocks_of (t / day)

-- no more than 73 blocks of 400 years, 3 of 100, 24 of 4 and 3 of 1
pub record FewBlocks (k : YearBlocks) : Type 0 where
  pub by400 : k.by_400 ≤ 73
  pub by100 : k.by_100 ≤ 3
  pub by4 : k.by_4 ≤ 24
  pub by1 : k.by_1 ≤ 3

abbrev pub blocks : ℕ → ℕ → ℕ → ℕ → ℕ → YearBlocks
blocks a b c d r = record { by_400 = a; by_100 = b; by_4 = c; by_1 = d; rest = r }

-- the blocks that the first TIME of a date takes
abbrev pub Takes : ℕ → ℕ → ℕ → YearBlocks → Type 0
Takes y m d k = time_blocks (day_number y m d * day) ≡ k

-- R-4, of the TIMEs from 0 to the last: the blocks that a TIME takes lead to its year and the day of that year, and they are few;
-- each count is reached, 73 by the last TIME, and 3, 24 and 3 on 31 December 2000
pub record BlockCounts (last : ℕ) : Type 0 where
  pub found : (t : ℕ) → after_blocks (time_blocks t) ≡ year_day (t / day)
  pub few : (t : ℕ) → t ≤ last → FewBlocks (time_blocks t)
  pub reached400 : time_blocks last ≡ blocks 73 0 6 3 257
  pub reached : Takes 2000 12 31 (blocks 0 3 24 3 365)

-- both sides of each kind of border
abbrev pub BlockExamples : Type 0
BlockExamples =
    Takes 1601 1 1 (blocks 0 0 0 0 0)
    × Takes 1601 12 31 (blocks 0 0 0 0 364)
    × Takes 1602 1 1 (blocks 0 0 0 1 0)
    × Takes 1604 12 30 (blocks 0 0 0 3 364)
    × Takes 1604 12 31 (blocks 0 0 0 3 365)
    × Takes 1605 1 1 (blocks 0 0 1 0 0)
    × Takes 1700 12 31 (blocks 0 0 24 3 364)
    × Takes 1701 1 1 (blocks 0 1 0 0 0)
    × Takes 2000 12 30 (blocks 0 3 24 3 364)
    × Takes 2000 12 31 (blocks 0 3 24 3 365)
    × Takes 2001 1 1 (blocks 1 0 0 0 0)
    × Takes 30800 12 31 (blocks 72 3 24 3 365)
    × Takes 30801 1 1 (blocks 73 0 0 0 0)
    × Takes 30828 9 14 (blocks 73 0 6 3 257)
