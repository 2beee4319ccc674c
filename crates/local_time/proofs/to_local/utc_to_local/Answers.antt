-- `local_time::to_local::utc_to_local` meets its contract: the row's checks, the tick, the window, the rule.
use Rattle.std.proofs.Common.{◌∙◌, ap}
use Rattle.std.proofs.lemmas.Result.{err_from_is_err_and}
use Rattle.refusal.specs.Outcome.{answered}
use Rattle.local_time.specs.LocalTime.{utc_to_local}
use Rattle.local_time.proofs.LocalLaws.{none-in-force, rule-in-force}
use Rattle.local_time.proofs.to_local.utc_to_local.Goals as goal

pub returns-in_err-accepted : goal.returns-in_err-accepted
unfolding utc_to_local
returns-in_err-accepted c =
    let p = err_from_is_err_and c.from_residual.result c.from_residual.ensures.1 in
    rw (p.1, p.2, c.in_err-accepted.ensures.refusal)

pub returns-in_err-tick : goal.returns-in_err-tick
unfolding utc_to_local
returns-in_err-tick c =
    let p = err_from_is_err_and c.from_residual-in_err-tick.result c.from_residual-in_err-tick.ensures.1 in
    let ok = rw c.in_ok-accepted.ensures.row at c.in_ok-accepted.accepted.accepted in
    rw (p.1, p.2, ok, ← c.in_err-tick.ensures.outcome)

pub returns-then-not-in_window : goal.returns-then-not-in_window
unfolding utc_to_local
returns-then-not-in_window c =
    let ok = rw c.in_ok-accepted.ensures.row at c.in_ok-accepted.accepted.accepted in
    rw (ok, ← c.in_ok-tick.ensures.outcome, ← c.if-not-in_window.ensures)

pub returns-in-Some : goal.returns-in-Some
returns-in-Some c =
    let ok = rw c.in_ok-accepted.ensures.row at c.in_ok-accepted.accepted.accepted in
    ap answered c.local_by.ensures
    ∙ rule-in-force c.args.row.now c.args.utc _ ok c.in_ok-tick.ensures.outcome c.if-not-in_window.ensures _
    (rw (c.in-Some.is, c.in_ok-accepted.ensures.row, c.year_of.ensures) at c.rule_in_force.ensures)

pub returns-in-None : goal.returns-in-None
returns-in-None c =
    let ok = rw c.in_ok-accepted.ensures.row at c.in_ok-accepted.accepted.accepted in
    none-in-force c.args.row.now c.args.utc _ ok c.in_ok-tick.ensures.outcome c.if-not-in_window.ensures
    (rw (c.in-None.is, c.in_ok-accepted.ensures.row, c.year_of.ensures) at c.rule_in_force.ensures)
