-- The sheet as comma separated values: a heading, and a line each for the weekdays, Sunday first, and for all of them.
use Rattle.std.specs.Prelude.{ℕ, List, ◌++◌, ℤ, get_or}
use Rattle.page.specs.Numbers.{decimal_text}
use Rattle.page.specs.Times.{time_shown}
use Rattle.tally.specs.declared.tallies.Tally.{Tally}
use Rattle.sheet.specs.Hours.{hours_of, minutes_of, time_run}
use Rattle.sheet.specs.Names.{sunday, monday, tuesday, wednesday, thursday, friday, saturday, total, heading, comma, line_end}

-- 611,24,22010400000000
unfoldable pub numbers_text : ℕ → List ℕ
numbers_text ticks = decimal_text (hours_of ticks) ++ comma ++ decimal_text (minutes_of ticks) ++ comma ++ decimal_text ticks

-- Sunday,611,24,22010400000000,2023-10-30T05:00:00Z
unfoldable pub line_text : ℤ → List ℕ → ℕ → List ℕ
line_text end name ticks = name ++ comma ++ numbers_text ticks ++ comma ++ time_shown end ++ line_end

unfoldable pub lines_text : ℤ → List ℕ → List ℕ
lines_text end totals =
    line_text end sunday (get_or totals 0 0)
    ++ line_text end monday (get_or totals 1 0)
    ++ line_text end tuesday (get_or totals 2 0)
    ++ line_text end wednesday (get_or totals 3 0)
    ++ line_text end thursday (get_or totals 4 0)
    ++ line_text end friday (get_or totals 5 0)
    ++ line_text end saturday (get_or totals 6 0)

unfoldable pub csv_text : Tally → List ℕ
csv_text t = heading ++ lines_text t.end.0 t.totals ++ line_text t.end.0 total (time_run t)
