-- The days of a year's first months by one division, tested at each number of months.
use Prim.Native.Nat.{ℕ, ◌+◌, ◌-◌, ◌*◌, ◌/◌, ◌≤◌}
use mathlib.Core.Path.{◌≡◌, ap, ◌∙◌}
use mathlib.Core.Bool.{Bool, true, false, cond, ◌&&◌}
use native.Mathlib.Omega.{arith}
use lib.Dec.{T, ltb, leb, leb→le, eqb, eqb→eq}
use Rattle.days.specs.Years.{leap}
use Rattle.days.specs.Months.{days_of_months}
use Rattle.days.proofs.Finite.{all, all-at, and_left, and_right}
use Rattle.days.proofs.months.Lengths.{len, lens, lens-of}

-- as if February had 30 days, less what it lacks
abbrev pub months_by : Bool → ℕ → ℕ
months_by l m = cond (ltb m 2) ((367 * m + 5) / 12) (cond l ((367 * m + 5) / 12 - 1) ((367 * m + 5) / 12 - 2))

right : Bool → ℕ → Bool
right l m = eqb (lens l m) (months_by l m) && leb (lens l m + 30) (cond l 365 364)

common : T (all (right false) 12)
unfolding all right lens len
common = tt

leaping : T (all (right true) 12)
unfolding all right lens len
leaping = tt

right-at : (l : Bool) (m : ℕ) → m ≤ 11 → T (right l m)
right-at true m h = all-at (right true) 12 leaping m (omega arith)
right-at false m h = all-at (right false) 12 common m (omega arith)

pub months-closed : (y m : ℕ) (l : Bool) → leap y ≡ l → m ≤ 11 → (days_of_months y m ≡ months_by l m) × (days_of_months y m + 30 ≤ cond l 365 364)
unfolding right
months-closed y m l e h =
    let g : days_of_months y m ≡ lens l m = lens-of y m ∙ ap (λ (b : Bool). lens b m) e in
    let t = right-at l m h in (
      g ∙ eqb→eq _ _ (and_left (eqb (lens l m) (months_by l m)) _ t),
      rw g (leb→le _ _ (and_right (eqb (lens l m) (months_by l m)) _ t)),
    )
