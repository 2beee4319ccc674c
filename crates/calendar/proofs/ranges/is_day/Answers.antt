-- `calendar::ranges::is_day` meets its contract: every month has 28 to 31 days.
use native.Mathlib.Omega.{arith}
use Rattle.days.specs.Months.{days_in_month}
use Rattle.days.proofs.months.Lengths.{month-long}
use Rattle.calendar.proofs.ranges.Within.{is_within, is-above}
use Rattle.calendar.proofs.ranges.is_day.Goals as goal

pub returns-in-1-to-28 : goal.returns-in-1-to-28
returns-in-1-to-28 c =
    let a = c.args in
    is_within 1 (days_in_month a.year a.month) a.day c.in-1-to-28.if-day-lt1-own.false (omega (arith, c.in-1-to-28.if-day-lt29-own.true, (month-long a.year a.month).0))

pub returns-in_default-2 : goal.returns-in_default-2
returns-in_default-2 c =
    let a = c.args in
    is-above 1 (days_in_month a.year a.month) a.day (omega (arith, c.in_default.if-day-lt32-own.false, (month-long a.year a.month).1))
