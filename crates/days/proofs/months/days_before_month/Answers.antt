-- `days::months::days_before_month` meets its contract, by the closed form of the sum over months.
use Prim.Native.Nat.{ℕ, ◌+◌, ◌-◌, ◌*◌, ◌/◌, ◌≤◌}
use mathlib.Core.Path.{◌≡◌, refl, sym}
use mathlib.Core.Bool.{Bool, true, false, cond}
use native.Mathlib.Omega.{arith}
use borrow.Author.Tests.{lt-ltb, le-ltb}
use Rattle.days.specs.Years.{leap}
use Rattle.days.specs.Months.{days_of_months}
use Rattle.days.proofs.months.Closed.{months-closed}
use Rattle.days.proofs.months.days_before_month.Goals as goal

past-february : (y m : ℕ) (l : Bool) → leap y ≡ l → m ≤ 11 → 2 ≤ m → (367 * m + 5) / 12 - cond l 1 2 ≡ days_of_months y m
past-february y m true e h k = sym (rw (le-ltb m 2 k) at (months-closed y m true e h).0)
past-february y m false e h k = sym (rw (le-ltb m 2 k) at (months-closed y m false e h).0)

pub returns-then-m-lt2 : goal.returns-then-m-lt2
returns-then-m-lt2 c =
    let a = c.args in
    ((λ y q. sym (rw (lt-ltb _ _ c.if-m-lt2.true) at (months-closed y a.m _ refl c.requires).0)), omega arith)

pub returns : goal.returns
returns c =
    let s = c in
    let f = c.february_lacks.ensures in
    ((λ y q. rw f (past-february y s.args.m s.args.is_leap q s.requires c.if-m-lt2.false)), omega (arith, s.requires, f, one s.args.is_leap))
  where
    one : (l : Bool) → 1 ≤ cond l 1 2
    one true = omega arith
    one false = omega arith
