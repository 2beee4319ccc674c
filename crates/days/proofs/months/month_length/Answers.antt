-- `days::months::month_length` meets its contract, arm by arm.
use Prim.Native.Nat.{ℕ}
use mathlib.Core.Path.{◌≡◌}
use mathlib.Core.Logic.{◌⊎◌, inl, inr, ⊎_elim}
use borrow.Author.Tests.{ne_eqb}
use Rattle.days.specs.Months.{days_in_month}
use Rattle.days.proofs.months.month_length.Goals as goal

thirty : (y m : ℕ) → ((m ≡ 4) ⊎ ((m ≡ 6) ⊎ ((m ≡ 9) ⊎ (m ≡ 11)))) → 30 ≡ days_in_month y m
unfolding days_in_month
thirty y m k = ⊎_elim (λ e. rw e) (⊎_elim (λ e. rw e) (⊎_elim (λ e. rw e) (λ e. rw e))) k

pub returns-in-4 : goal.returns-in-4
returns-in-4 c = λ y e. thirty y _ c.in-4.is

pub returns-then-is_leap : goal.returns-then-is_leap
unfolding days_in_month
returns-then-is_leap c = λ y e. rw (c.in-2.is, e, c.if-is_leap.true)

pub returns-else-is_leap : goal.returns-else-is_leap
unfolding days_in_month
returns-else-is_leap c = λ y e. rw (c.in-2.is, e, c.if-is_leap.false)

pub returns-in_default : goal.returns-in_default
unfolding days_in_month
returns-in_default c =
    let m = c.args.month in
    let h = c.in_default.in_default-own.rest.0.1 in
    λ y q. rw (
      ne_eqb m 2 c.in_default.in_default-own.rest.1,
      ne_eqb m 4 (λ e. h (inl e)),
      ne_eqb m 6 (λ e. h (inr (inl e))),
      ne_eqb m 9 (λ e. h (inr (inr (inl e)))),
      ne_eqb m 11 (λ e. h (inr (inr (inr e)))),
    )
