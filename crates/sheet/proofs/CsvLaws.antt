-- A sheet of comma separated values is never cut.
use Prim.Native.Nat.{ℕ, ◌+◌, ◌^◌, ◌<◌, ◌≤◌}
use mathlib.Core.List.{List}
use native.Mathlib.Omega.{arith}
use lib.IntN.{ℤ}
use lib.ListN.{length, get_or, length-append}
use Rattle.page.proofs.LengthLaws.{decimal-most, time-most}
use Rattle.tally.specs.declared.tallies.Tally.{Tally}
use Rattle.sheet.specs.Hours.{hours_of, minutes_of, time_run}
use Rattle.sheet.specs.Names.{sunday, monday, tuesday, wednesday, thursday, friday, saturday, total}
use Rattle.sheet.specs.Csv.{numbers_text, line_text, lines_text, csv_text}
use Rattle.sheet.proofs.HourLaws.{run_fits, Whole}

numbers-most : (ticks : ℕ) → ticks < 2 ^ 64 → length (numbers_text ticks) ≤ 62
unfolding numbers_text
numbers-most ticks h =
    simp length-append
    (omega (arith, decimal-most (hours_of ticks) (omega arith), decimal-most (minutes_of ticks) (omega arith), decimal-most ticks (omega arith)))

line-most : (end : ℤ) (name : List ℕ) (ticks : ℕ) → ticks < 2 ^ 64 → length (line_text end name ticks) ≤ 94 + length name
unfolding line_text
line-most end name ticks h = simp length-append (omega (arith, numbers-most ticks h, time-most end))

-- the seven names have 50 letters
lines-most : (end : ℤ) (totals : List ℕ) → ((i : ℕ) → get_or totals i 0 < 2 ^ 64) → length (lines_text end totals) ≤ 708
unfolding lines_text
lines-most end totals h =
    simp length-append
    (omega (arith, line-most end sunday _ (h 0), line-most end monday _ (h 1), line-most end tuesday _ (h 2), line-most end wednesday _ (h 3), line-most end thursday _ (h 4), line-most end friday _ (h 5), line-most end saturday _ (h 6)))

pub csv-fits : (t : Tally) → Whole t → length (csv_text t) ≤ 1024
unfolding csv_text
csv-fits t h =
    let end = t.end.0 in
    simp length-append (omega (arith, lines-most end t.totals h, line-most end total (time_run t) (run_fits t)))
