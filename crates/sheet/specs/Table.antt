-- The sheet as a table: a row for each weekday, Sunday first, one for all of them, and the time up to which they count.
use Rattle.std.specs.Prelude.{ℕ, List, ◌++◌, ℤ, get_or}
use Rattle.page.specs.Characters.{colon}
use Rattle.page.specs.Pages.{left_text}
use Rattle.page.specs.Numbers.{digits_of, right_text}
use Rattle.page.specs.Times.{time_shown}
use Rattle.tally.specs.declared.tallies.Tally.{Tally}
use Rattle.sheet.specs.Hours.{hours_of, minutes_of, time_run}
use Rattle.sheet.specs.Names.{sunday, monday, tuesday, wednesday, thursday, friday, saturday, total, counted_up_to, line_end}

-- Sunday       611:24
unfoldable pub row_text : List ℕ → ℕ → List ℕ
row_text name ticks = left_text 10 name ++ right_text 6 (hours_of ticks) ++ colon ++ digits_of 2 (minutes_of ticks) ++ line_end

unfoldable pub rows_text : List ℕ → List ℕ
rows_text totals =
    row_text sunday (get_or totals 0 0)
    ++ row_text monday (get_or totals 1 0)
    ++ row_text tuesday (get_or totals 2 0)
    ++ row_text wednesday (get_or totals 3 0)
    ++ row_text thursday (get_or totals 4 0)
    ++ row_text friday (get_or totals 5 0)
    ++ row_text saturday (get_or totals 6 0)

-- counted up to 2023-10-30T05:00:00Z
unfoldable pub end_text : ℤ → List ℕ
end_text end = counted_up_to ++ time_shown end ++ line_end

unfoldable pub table_text : Tally → List ℕ
table_text t = rows_text t.totals ++ row_text total (time_run t) ++ end_text t.end.0
