-- `totals::weekdays::add_weeks` meets its contract: the weeks are the law of whole cycles, and the days go on from there.
use Prim.Native.Nat.{ℕ, ◌+◌, ◌-◌, ◌*◌, ◌/◌}
use mathlib.Core.Path.{sym, ap, ◌∙◌}
use mathlib.Core.List.{List}
use native.Mathlib.Omega.{arith}
use Rattle.days.specs.Ticks.{weekday_of}
use Rattle.totals.specs.Totals.{grown}
use Rattle.totals.proofs.GrownLaws.{grown-on}
use Rattle.totals.proofs.CycleLaws.{grown-cycles}
use Rattle.totals.proofs.weekdays.add_weeks.Goals as goal

pub returns : goal.returns
returns c =
    let a = c.args in
    let w : ℕ = (a.to - a.from) / 6048000000000 in
    c.add_days.ensures
    ∙ ap (λ (l : List ℕ). grown 7 weekday_of l (a.from + w * 6048000000000) a.to) (c.add_to_each-sums.ensures ∙ sym (grown-cycles 7 864000000000 1 (omega arith) (omega arith) a.totals a.from w))
    ∙ grown-on 7 weekday_of a.totals a.from (a.from + w * 6048000000000) a.to (omega arith) (omega arith)
