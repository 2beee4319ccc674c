-- `totals::weekdays::add_to_each` meets its contract.
use mathlib.Core.Path.{◌∙◌}
use Rattle.std.proofs.Common.{◌<◌, ◌≢◌, length, arith, get_or-set_other, get_or-set_same, below_more}
use Rattle.totals.proofs.TableLaws.{le-sum, table_is, same-table}
use Rattle.totals.proofs.weekdays.add_to_each.Goals as goal

pub overflow_add-total : goal.overflow_add-total
overflow_add-total c =
    let l = c.loop-total in
    omega (arith, le-sum c.args.totals l.total-index, l.invariant.left l.total-index)

pub returns : goal.returns
returns c =
    let l = c.loop-total in
    table_is 7 l.total-items (omega arith) ∙ same-table 0 7 _ _ (λ k i j. l.invariant.grown k (omega arith))

pub loop-total-preserved : goal.loop-total-preserved
loop-total-preserved c =
    let l = c.loop-total in
    record {
      grown = below_more _ _ (λ k h. let ne : k ≢ l.total-index = omega arith in rw get_or-set_other (l.invariant.grown k h)) (let lt : l.total-index < length l.total-items = omega arith in rw get_or-set_same (omega (arith, l.invariant.left l.total-index)));
      left = λ k h. let ne : k ≢ l.total-index = omega arith in rw get_or-set_other (l.invariant.left k (omega arith));
    }
