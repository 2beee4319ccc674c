-- `table_calendar::years::start_by_table` meets its contract: whole cycles, and the table's entry.
use Prim.Native.Nat.{◌-◌, ◌%◌}
use native.Mathlib.Omega.{arith}
use Rattle.table_calendar.proofs.years.Cycles.{every-year, entry-small}
use Rattle.table_calendar.proofs.years.start_by_table.Goals as goal

pub overflow_add-result : goal.overflow_add-result
overflow_add-result c = rw c.table_lent-starts.ensures (omega (arith, entry-small ((c.args.year - 1601) % 400) (omega arith)))

pub returns : goal.returns
returns c =
    rw c.table_lent-starts.ensures
    (every-year c.args.year c.requires.0, omega (arith, entry-small ((c.args.year - 1601) % 400) (omega arith)))
