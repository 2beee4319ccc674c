-- `in_force::switches::switch_day` meets its contract, by whether the date is yearly.
use Rattle.std.proofs.Common.{◌+◌, ap₂, arith}
use Rattle.days.proofs.months.Lengths.{month-long}
use Rattle.in_force.proofs.switches.DayLaws.{dated-found, yearly-found}
use Rattle.in_force.proofs.switches.switch_day.Goals as goal

pub returns-then-date-ne0 : goal.returns-then-date-ne0
returns-then-date-ne0 c =
    let month-first = ap₂ ◌+◌ c.requires.0 (c.days_before_month.ensures.0 c.args.year c.requires.2) in
    (dated-found c.args.year _ c.args.date c.if-date-ne0.true month-first, omega (arith, c.days_before_month.ensures.1, c.requires.1, c.requires.3.day31))

pub nth_day-day-requires : goal.nth_day-day-requires
nth_day-day-requires c =
    let v = c.requires.3 in
    let e = c.if-date-ne0.false in
    let long = month-long c.args.year c.args.date.month in
    let length = c.length_of_month-length.ensures c.args.year c.requires.2 in
    (omega (arith, c.days_before_month.ensures.1, c.requires.1), v.yearly6 e, v.day1, v.yearly5 e, omega (arith, length, long.0), omega (arith, length, long.1))

pub returns : goal.returns
returns c =
    let month-first = ap₂ ◌+◌ c.requires.0 (c.days_before_month.ensures.0 c.args.year c.requires.2) in
    let n = c.nth_day-day.ensures in (
      yearly-found c.args.year _ _ _ c.args.date c.requires.3 c.if-date-ne0.false month-first (c.length_of_month-length.ensures c.args.year c.requires.2) n.0,
      omega (arith, c.days_before_month.ensures.1, c.requires.1, n.2),
    )
