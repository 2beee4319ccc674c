-- The weekday goes on by one each day, Saturday to Sunday.
use Prim.Native.Nat.{ℕ, suc, ◌+◌, ◌*◌, ◌%◌}
use mathlib.Core.Path.{◌≡◌}
use native.Mathlib.Omega.{arith}
use Rattle.days.specs.Dates.{weekday}

pub weekday-next : (n : ℕ) → weekday (suc n) ≡ (weekday n + 1) % 7
weekday-next n = omega arith

pub weekday-week : (n k : ℕ) → weekday (n + 7 * k) ≡ weekday n
weekday-week n k = omega arith
