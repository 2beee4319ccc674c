-- At each of its places the table has the days of the years before it.
use Prim.Native.Nat.{ℕ, zero, suc, ◌+◌, ◌<◌}
use mathlib.Core.Path.{◌≡◌, refl, ap, sym, subst, ◌∙◌}
use native.Mathlib.Nat.{add-zero, zero-add, add-suc, suc-add}
use native.Mathlib.Omega.{arith}
use lib.ListN.{get_or}
use Rattle.days.specs.Years.{days_in_year, days_of_years}
use Rattle.table_calendar.specs.Table.{starts_from, days_before_year}

-- the starts of n years from place k on
starts-at : (n k y s i : ℕ) → y ≡ 1601 + k → s ≡ days_of_years k → i < n → get_or (starts_from n y s) i 0 ≡ days_of_years (k + i)
unfolding starts_from days_of_years
starts-at zero k y s i ey es h = absurd (omega arith)
starts-at (suc n) k y s zero ey es h = es ∙ ap days_of_years (sym (add-zero k))
starts-at (suc n) k y s (suc i) ey es h =
    subst (λ (m : ℕ). get_or (starts_from n (suc y) (s + days_in_year y)) i 0 ≡ days_of_years m) (suc-add k i ∙ sym (add-suc k i))
    (starts-at n (suc k) (suc y) (s + days_in_year y) i (omega arith) (rw (es, ey)) (omega arith))

pub entry : (i : ℕ) → i < 400 → get_or days_before_year i 0 ≡ days_of_years i
unfolding days_before_year days_of_years
entry i h = starts-at 400 0 1601 0 i refl refl h ∙ ap days_of_years (zero-add i)
