-- `local_time::to_utc::shown_in` meets its contract: the rules of one year or of two say all ticks that show the local tick.
use Rattle.std.proofs.Common.{◌-◌, ◌≤◌, ◌≡◌, sym, ◌∙◌}
use Rattle.days.specs.Ticks.{day, year_of, day_in_year}
use Rattle.in_force.proofs.shown.AnswerLaws.{no-rule-ticks}
use Rattle.local_time.proofs.UtcLaws.{one-year, shown-in-year, shown-in-row}
use Rattle.local_time.proofs.to_utc.shown_in.Goals as goal

pub ticks_within-requires : goal.ticks_within-requires
ticks_within-requires c =
    let n = c.args.tick in
    let early : day_in_year (n - day) ≤ 362 = rw (c.day_in_year.ensures, c.day_before-before.ensures) at c.if-day_in_year-le362.true in
    let year : c.year_of-year.result ≡ year_of (n - day) = rw c.day_before-before.ensures at c.year_of-year.ensures in
    (c.requires, sym year, one-year c.args.row.rules.now c.args.row.accepted n early ∙ sym year)

pub returns-in-Some : goal.returns-in-Some
returns-in-Some c =
    let n = c.args.tick in
    let early : day_in_year (n - day) ≤ 362 = rw (c.day_in_year.ensures, c.day_before-before.ensures) at c.if-day_in_year-le362.true in
    let year : c.year_of-year.result ≡ year_of (n - day) = rw c.day_before-before.ensures at c.year_of-year.ensures in
    c.ticks_within.ensures ∙ rw (c.in-Some.ensures, year) (shown-in-year c.args.row.rules.now c.args.row.accepted n early)

pub returns-in-None : goal.returns-in-None
returns-in-None c =
    let n = c.args.tick in
    let early : day_in_year (n - day) ≤ 362 = rw (c.day_in_year.ensures, c.day_before-before.ensures) at c.if-day_in_year-le362.true in
    let year : c.year_of-year.result ≡ year_of (n - day) = rw c.day_before-before.ensures at c.year_of-year.ensures in
    let none = rw (c.in-None.is, year) at c.rule_in_force-first.ensures in
    sym (no-rule-ticks (year_of (n - day)) n) ∙ rw none (shown-in-year c.args.row.rules.now c.args.row.accepted n early)

pub returns : goal.returns
returns c =
    let n = c.args.tick in
    let year : c.year_of-year.result ≡ year_of (n - day) = rw c.day_before-before.ensures at c.year_of-year.ensures in
    c.shown_ticks.ensures
    ∙ rw (c.rule_in_force-first.ensures, year, c.rule_in_force.ensures, c.year_of-later.ensures) (shown-in-row c.args.row.rules.now c.args.row.accepted n)
