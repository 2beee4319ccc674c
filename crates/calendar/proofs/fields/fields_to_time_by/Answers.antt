-- `calendar::fields::fields_to_time_by` meets its contract: the revision, then the one test on unsigned numbers that is the chain of tests on the fields.
use mathlib.Core.Path.{◌∙◌, sym}
use Rattle.std.proofs.lemmas.Result.{err_from_is_err_and}
use Rattle.calendar.proofs.fields.Formed.{formed, unknown-revision, ill-formed, well-formed}
use Rattle.calendar.proofs.fields.fields_to_time_by.Goals as goal

pub returns-in_err-check_revision : goal.returns-in_err-check_revision
returns-in_err-check_revision g c =
    let p = err_from_is_err_and c.from_residual.result c.from_residual.ensures.1 in
    rw (p.1, p.2) (unknown-revision _ _ _ c.in_err-check_revision.ensures)

pub returns-then-not-well_formed : goal.returns-then-not-well_formed
returns-then-not-well_formed g c = ill-formed _ _ _ c.in_ok-check_revision.ensures c.parts_of-p.ensures (sym c.if-not-well_formed.ensures)

pub day_number-days-requires : goal.day_number-days-requires
day_number-days-requires g c =
    let f = formed _ c.parts_of-p.result (sym c.if-not-well_formed.ensures) in
    (f.year.0, f.year.1, f.month.0, f.month.1, f.day.0, f.day.1)

pub time_on-requires : goal.time_on-requires
time_on-requires g c =
    let f = formed _ c.parts_of-p.result (sym c.if-not-well_formed.ensures) in
    (c.day_number-days.ensures.0, c.day_number-days.ensures.1, f.hour, f.minute, f.second, f.milliseconds)

pub returns : goal.returns
returns g c = c.time_on.ensures ∙ well-formed _ _ _ c.in_ok-check_revision.ensures c.parts_of-p.ensures (sym c.if-not-well_formed.ensures)
