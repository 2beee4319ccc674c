-- `in_force::shown::ticks_within` meets its contract, by whether the year is of the window.
use Rattle.std.proofs.Common.{suc, ◌+◌, ◌-◌, ◌<◌, ◌≤◌, sym, ◌∙◌, add-one, arith}
use Rattle.days.specs.Ticks.{day, year_tick}
use Rattle.days.proofs.Counting.{append-none}
use Rattle.days.proofs.ticks.YearTicks.{year-bounds, ticks-rise, tick-1602}
use Rattle.calendar.proofs.ranges.Within.{is_within, is_below, is-above}
use Rattle.in_force.specs.Shown.{year_ticks}
use Rattle.in_force.proofs.rule_bias.YearLaws.{standard-ok, daylight-ok}
use Rattle.in_force.proofs.shown.YearLaws.{year-shows}
use Rattle.in_force.proofs.shown.ticks_within.Goals as goal

pub shown_within-requires : goal.shown_within-requires
shown_within-requires c =
    let s = c in
    let e = c.year_bias.ensures in
    (rw e (standard-ok s.args.year _ s.args.rule.sound), rw e (daylight-ok s.args.year _ s.args.rule.sound), s.requires.0)

pub returns-in-1602-to-30827 : goal.returns-in-1602-to-30827
unfolding year_ticks
returns-in-1602-to-30827 c =
    let w = c in
    let b = w in
    let i = b in
    let s = i in
    let y = s.args.year in
    let l = s.args.local in
    let late = ticks-rise 1602 y i.in-1602-to-30827.if-year-lt1602-own.false in
    let low : year_tick y ≤ l - day = rw s.requires.1 at (year-bounds (l - day)).low in
    let high : l + day < year_tick (suc y) = rw s.requires.2 at (year-bounds (l + day)).high in
    rw (sym (is_within 1602 30827 _ i.in-1602-to-30827.if-year-lt1602-own.false i.in-1602-to-30827.if-year-lt30828-own.true))
    (c.joined.ensures
    ∙ append-none _
    ∙ rw b.year_bias.ensures at (w.shown_within.ensures (year_tick y) (year_tick (y + 1)) (omega (arith, late, tick-1602)) low (rw add-one high))
    ∙ year-shows s.args.rule.rule y l (omega (arith, i.in-1602-to-30827.if-year-lt1602-own.false)))

pub returns-in_default : goal.returns-in_default
unfolding year_ticks
returns-in_default c = rw (sym (is_below 1602 30827 _ c.in_default.if-year-lt1602-own.true))

pub returns-in_default-2 : goal.returns-in_default-2
unfolding year_ticks
returns-in_default-2 c = rw (sym (is-above 1602 30827 _ c.in_default.if-year-lt30828-own.false))
