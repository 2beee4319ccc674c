-- `in_force::switches::switches` meets its contract: each date plus the sum of the time before it.
use Rattle.std.proofs.Common.{sym, arith, w32}
use mir.ValLaws.{to_z-of_z}
use Rattle.in_force.proofs.switches.DayLaws.{switching, tick_is}
use Rattle.in_force.proofs.switches.switches.Goals as goal

pub standard_sum-standard_bias-requires : goal.standard_sum-standard_bias-requires
standard_sum-standard_bias-requires c = (switching c.args.year c.args.sound.rule c.args.sound.sound c.requires.2).standard_ok

pub daylight_sum-daylight_bias-requires : goal.daylight_sum-daylight_bias-requires
daylight_sum-daylight_bias-requires c = (switching c.args.year c.args.sound.rule c.args.sound.sound c.requires.2).daylight_ok

pub switch_day-d_day-requires : goal.switch_day-d_day-requires
switch_day-d_day-requires c =
    let dates = switching c.args.year c.args.sound.rule c.args.sound.sound c.requires.2 in
    let y = c.days_of_years-first.ensures in
    (y.0, omega (arith, y.1, c.requires.1), sym c.leap_year-is_leap.ensures, dates.daylight_valid)

pub switch_day-s_day-requires : goal.switch_day-s_day-requires
switch_day-s_day-requires c =
    let dates = switching c.args.year c.args.sound.rule c.args.sound.sound c.requires.2 in
    let y = c.days_of_years-first.ensures in
    (y.0, omega (arith, y.1, c.requires.1), sym c.leap_year-is_leap.ensures, dates.standard_valid)

pub tick_on-requires : goal.tick_on-requires
tick_on-requires c = (c.switch_day-d_day.ensures.1, (switching c.args.year c.args.sound.rule c.args.sound.sound c.requires.2).daylight_valid)

pub plus_bias-daylight-requires : goal.plus_bias-daylight-requires
plus_bias-daylight-requires c =
    let dates = switching c.args.year c.args.sound.rule c.args.sound.sound c.requires.2 in
    let a = c.standard_sum-standard_bias in
    (rw (to_z-of_z w32 _ (record { sfits = a.type_inv }), a.ensures) dates.standard_ok, omega (arith, c.tick_on.ensures.1))

pub tick_on-requires-2 : goal.tick_on-requires-2
tick_on-requires-2 c = (c.switch_day-s_day.ensures.1, (switching c.args.year c.args.sound.rule c.args.sound.sound c.requires.2).standard_valid)

pub plus_bias-standard-requires : goal.plus_bias-standard-requires
plus_bias-standard-requires c =
    let dates = switching c.args.year c.args.sound.rule c.args.sound.sound c.requires.2 in
    let b = c.daylight_sum-daylight_bias in
    (rw (to_z-of_z w32 _ (record { sfits = b.type_inv }), b.ensures) dates.daylight_ok, omega (arith, c.tick_on-2.ensures.1))

pub returns : goal.returns
returns c =
    let b = c.daylight_sum-daylight_bias in
    let a = c.standard_sum-standard_bias in
    let v = switching c.args.year c.args.sound.rule c.args.sound.sound c.requires.2 in
    let ed = c.switch_day-d_day.ensures.0 in
    let es = c.switch_day-s_day.ensures.0 in (
      rw (to_z-of_z w32 a.result (record { sfits = a.type_inv }), a.ensures, c.tick_on.ensures.0, ed, tick_is c.args.year c.args.sound.rule.daylight_date v.daylight_valid) at c.plus_bias-daylight.ensures,
      rw (to_z-of_z w32 b.result (record { sfits = b.type_inv }), b.ensures, c.tick_on-2.ensures.0, es, tick_is c.args.year c.args.sound.rule.standard_date v.standard_valid) at c.plus_bias-standard.ensures,
    )
