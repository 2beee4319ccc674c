-- How the code finds a year in the table. No public contract rests on this.
use Rattle.std.specs.Prelude.{ℕ, suc, ◌≤◌, ◌<◌}
use Rattle.days.specs.Years.{days_of_years}

-- day d of a cycle lies in the year at place p, the first one being at place 0
pub record IsPlace (d p : ℕ) : Type 0 where
  pub there : p < 400
  pub from : days_of_years p ≤ d
  pub before : d < days_of_years (suc p)
