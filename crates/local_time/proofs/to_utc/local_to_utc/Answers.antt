-- `local_time::to_utc::local_to_utc` meets its contract: the row's checks, the tick, and what shows it.
use Rattle.std.proofs.Common.{◌∙◌, ap, sym, subst}
use Rattle.std.specs.Prelude.{map}
use Rattle.std.proofs.lemmas.Result.{err_from_is_err_and}
use Rattle.refusal.specs.Outcome.{answered}
use Rattle.zone.specs.Ticks.{utc_tick}
use Rattle.in_force.specs.Shown.{Inside}
use Rattle.local_time.specs.LocalTime.{local_to_utc}
use Rattle.in_force.proofs.shown.AnswerLaws.{shown-inside}
use Rattle.local_time.proofs.UtcLaws.{shown-in-row}
use Rattle.local_time.proofs.to_utc.local_to_utc.Goals as goal

pub returns-in_err-accepted : goal.returns-in_err-accepted
unfolding local_to_utc
returns-in_err-accepted c =
    let p = err_from_is_err_and c.from_residual.result c.from_residual.ensures.1 in
    rw (p.1, p.2, c.in_err-accepted.ensures.refusal)

pub returns-in_err-tick : goal.returns-in_err-tick
unfolding local_to_utc
returns-in_err-tick c =
    let p = err_from_is_err_and c.from_residual-in_err-tick.result c.from_residual-in_err-tick.ensures.1 in
    let ok = rw c.in_ok-accepted.ensures.row at c.in_ok-accepted.accepted.accepted in
    rw (p.1, p.2, ok, ← c.in_err-tick.ensures.outcome)

pub as_utc-requires : goal.as_utc-requires
as_utc-requires c =
    let row = c.in_ok-accepted.accepted in
    subst Inside (shown-in-row row.rules.now row.accepted c.in_ok-tick.tick ∙ sym c.shown_in.ensures) (shown-inside _ _ _)

pub returns : goal.returns
unfolding local_to_utc
returns c =
    let ok = rw c.in_ok-accepted.ensures.row at c.in_ok-accepted.accepted.accepted in
    rw (ok, ← c.in_ok-tick.ensures.outcome) (ap answered (c.as_utc.ensures ∙ ap (map utc_tick) (rw c.in_ok-accepted.ensures.row at c.shown_in.ensures)))
