-- `in_force::shown::shown_ticks` meets its contract, by whether the years of a day before and of a day after are one.
use Rattle.std.proofs.Common.{ap, ◌∙◌}
use Rattle.days.specs.Ticks.{year_of}
use Rattle.zone.specs.Sound.{rule_of}
use Rattle.in_force.proofs.shown.YearLaws.{shown-one, shown-two}
use Rattle.in_force.proofs.shown.shown_ticks.Goals as goal

pub returns-then-y-z : goal.returns-then-y-z
returns-then-y-z c =
    let year-before = c.year_of-y.ensures ∙ ap year_of c.day_before.ensures in
    shown-one (rule_of c.args.first) (rule_of c.args.second) c.args.local _ _ year-before c.year_of-z.ensures _ _ c.if-y-z.true c.year_ticks-a.ensures
    c.joined.ensures

pub returns : goal.returns
returns c =
    let year-before = c.year_of-y.ensures ∙ ap year_of c.day_before.ensures in
    shown-two (rule_of c.args.first) (rule_of c.args.second) c.args.local _ _ year-before c.year_of-z.ensures _ _ _ c.if-y-z.false c.year_ticks-a.ensures
    c.year_ticks.ensures c.joined-2.ensures
