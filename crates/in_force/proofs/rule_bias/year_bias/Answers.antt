-- `in_force::rule_bias::year_bias` meets its contract, by whether the dates are set and of that year.
use Rattle.std.proofs.Common.{◌∙◌, w32}
use mir.ValLaws.{to_z-of_z}
use Rattle.refusal.proofs.Tests.{failed, passed}
use Rattle.in_force.proofs.ValidDates.{is-set, not_set}
use Rattle.in_force.proofs.CheckedRules.{dated}
use Rattle.in_force.proofs.switches.DayLaws.{switching}
use Rattle.in_force.proofs.rule_bias.YearLaws.{no-dates, other-year, switch-year}
use Rattle.in_force.proofs.rule_bias.year_bias.Goals as goal

pub returns-then-date-eq0 : goal.returns-then-date-eq0
returns-then-date-eq0 c =
    let s = c in
    no-dates s.args.year s.args.sound.rule _ (not_set s.args.sound.rule.standard_date c.if-date-eq0.true)
    (to_z-of_z w32 s.args.sound.rule.bias (record { sfits = c.struct_told-1.given.1.1.0.1 }))

pub standard_sum-standard-requires : goal.standard_sum-standard-requires
standard_sum-standard-requires c =
    let s = c in
    (dated s.args.sound.rule s.args.sound.sound (is-set s.args.sound.rule.standard_date c.if-date-eq0.false)).standard_ok

pub returns-then-not-switches_in : goal.returns-then-not-switches_in
returns-then-not-switches_in c =
    let s = c in
    let a = c.standard_sum-standard in
    other-year s.args.year s.args.sound.rule _ (is-set s.args.sound.rule.standard_date c.if-date-eq0.false) (failed c.switches_in.ensures c.if-not-switches_in.true)
    (to_z-of_z w32 a.result (record { sfits = a.type_inv }) ∙ a.ensures)

pub daylight_sum-daylight-requires : goal.daylight_sum-daylight-requires
daylight_sum-daylight-requires c =
    let s = c in
    (switching s.args.year s.args.sound.rule s.args.sound.sound (passed c.switches_in.ensures c.if-not-switches_in.false)).daylight_ok

pub returns : goal.returns
returns c =
    let s = c in
    let w = c.switches-starts.ensures in
    let a = c.standard_sum-standard in
    let b = c.daylight_sum-daylight in
    switch-year s.args.year s.args.sound.rule _ (passed c.switches_in.ensures c.if-not-switches_in.false) w.0 w.1
    (to_z-of_z w32 a.result (record { sfits = a.type_inv }) ∙ a.ensures) (to_z-of_z w32 b.result (record { sfits = b.type_inv }) ∙ b.ensures)
