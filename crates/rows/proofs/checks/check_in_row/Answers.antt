-- `rows::checks::check_in_row` meets its contract: a usual rule passes.
use mathlib.Core.Path.{sym, ◌∙◌}
use Rattle.zone.proofs.rules.Sound.{usual-passes}
use Rattle.rows.proofs.checks.check_in_row.Goals as goal

pub returns-then-is_usual : goal.returns-then-is_usual
returns-then-is_usual c =
    let a = c.args in
    sym (usual-passes a.before a.rule (sym c.is_usual.ensures ∙ c.if-is_usual.true))
