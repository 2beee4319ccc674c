-- `in_force::shown::candidates` meets its contract: the ticks of the rule's year that show the local tick.
use Rattle.std.proofs.Common.{◌∙◌, arith}
use Rattle.days.proofs.ticks.YearTicks.{ticks-rise, tick-1602}
use Rattle.in_force.proofs.rule_bias.YearLaws.{standard-ok, daylight-ok}
use Rattle.in_force.proofs.shown.YearLaws.{year-shows}
use Rattle.in_force.proofs.shown.candidates.Goals as goal

pub shown_at-requires : goal.shown_at-requires
shown_at-requires c =
    let s = c in
    let e = c.year_bias-k.ensures in
    let late = ticks-rise 1602 s.args.year s.requires.0 in
    (rw e (standard-ok s.args.year _ s.args.rule.sound), rw e (daylight-ok s.args.year _ s.args.rule.sound), omega (arith, c.year_start.ensures.0, tick-1602), s.requires.2)

pub returns : goal.returns
returns c =
    let s = c in
    rw (c.year_bias-k.ensures, c.year_start.ensures.0, c.year_start-2.ensures.0) at c.shown_at.ensures
    ∙ year-shows s.args.rule.rule s.args.year s.args.local (omega (arith, s.requires.0))
