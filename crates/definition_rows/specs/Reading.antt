-- What the steps of a reading into a row are handed. No public contract rests on this.
use Rattle.std.specs.Prelude.{ℕ, ◌+◌, ◌<◌, ◌≤◌, List, length}
use Rattle.struct_slices.specs.Loaded.{times}
use Rattle.definition.specs.Places.{next_kept}

-- n kept rules stand within the bytes, from a place on
pub record RulesThere (s : List ℕ) (n at : ℕ) : Type 0 where
  pub fits : (i : ℕ) → i < n → times (next_kept s) i at + 66 ≤ length s
