-- The table of a cycle of 400 years.
use Rattle.std.specs.Prelude.{ℕ, zero, suc, ◌+◌, List, [], ◌∷◌}
use Rattle.days.specs.Years.{days_in_year}

-- the starts of n years from year y on, which starts on day s: each year starts where the one before it ends
unfoldable pub starts_from : ℕ → ℕ → ℕ → List ℕ
starts_from zero y s = []
starts_from (suc n) y s = s ∷ starts_from n (suc y) (s + days_in_year y)

-- for each of the 400 years of a cycle the days from the cycle's start to the year's start; the first cycle starts with 1601
unfoldable pub days_before_year : List ℕ
days_before_year = starts_from 400 1601 0
