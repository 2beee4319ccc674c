-- A table is never cut.
use Prim.Native.Nat.{ℕ, ◌+◌, ◌^◌, ◌<◌, ◌≤◌}
use mathlib.Core.List.{List}
use native.Mathlib.Omega.{arith}
use lib.IntN.{ℤ}
use lib.ListN.{length, get_or, length-append}
use Rattle.page.proofs.LengthLaws.{length_digits, left-most, right-most, time-most}
use Rattle.tally.specs.declared.tallies.Tally.{Tally}
use Rattle.sheet.specs.Hours.{hours_of, time_run}
use Rattle.sheet.specs.Names.{sunday, monday, tuesday, wednesday, thursday, friday, saturday, total}
use Rattle.sheet.specs.Table.{row_text, rows_text, end_text, table_text}
use Rattle.sheet.proofs.HourLaws.{run_fits, Whole}

row-most : (name : List ℕ) (ticks : ℕ) → ticks < 2 ^ 64 → length (row_text name ticks) ≤ 40 + length name
unfolding row_text
row-most name ticks h = simp (length-append, length_digits) (omega (arith, left-most 10 name, right-most 6 (hours_of ticks) (omega arith)))

-- the seven names have 50 letters
rows-most : (totals : List ℕ) → ((i : ℕ) → get_or totals i 0 < 2 ^ 64) → length (rows_text totals) ≤ 330
unfolding rows_text
rows-most totals h =
    simp length-append
    (omega (arith, row-most sunday _ (h 0), row-most monday _ (h 1), row-most tuesday _ (h 2), row-most wednesday _ (h 3), row-most thursday _ (h 4), row-most friday _ (h 5), row-most saturday _ (h 6)))

end-most : (end : ℤ) → length (end_text end) ≤ 44
unfolding end_text
end-most end = simp length-append (omega (arith, time-most end))

pub table_fits : (t : Tally) → Whole t → length (table_text t) ≤ 1024
unfolding table_text
table_fits t h = simp length-append (omega (arith, rows-most t.totals h, row-most total (time_run t) (run_fits t), end-most t.end.0))
