-- `in_force::shown::year_ticks` meets its contract, by whether there is a rule, and whether the year is of the window.
use Rattle.std.proofs.Common.{sym}
use Rattle.calendar.proofs.ranges.Within.{is_within, is_below, is-above}
use Rattle.in_force.specs.Shown.{year_ticks}
use Rattle.in_force.proofs.shown.AnswerLaws.{no-rule-ticks}
use Rattle.in_force.proofs.shown.year_ticks.Goals as goal

pub returns-in_default : goal.returns-in_default
returns-in_default c = rw c.in_default.is (sym (no-rule-ticks _ _))

pub returns-in-1602-to-30827 : goal.returns-in-1602-to-30827
unfolding year_ticks
returns-in-1602-to-30827 c =
    rw (c.in-Some.is, sym (is_within 1602 30827 _ c.in-1602-to-30827.if-year-lt1602-own.false c.in-1602-to-30827.if-year-lt30828-own.true)) c.candidates.ensures

pub returns-in_default-year : goal.returns-in_default-year
unfolding year_ticks
returns-in_default-year c = rw (sym (is_below 1602 30827 _ c.in_default-year.if-year-lt1602-own.true))

pub returns-in_default-year-2 : goal.returns-in_default-year-2
unfolding year_ticks
returns-in_default-year-2 c = rw (sym (is-above 1602 30827 _ c.in_default-year.if-year-lt30828-own.false))
