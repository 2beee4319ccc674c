-- Zone rules in words.
use Rattle.std.specs.Prelude.{ℕ, cond, ◌&&◌, List, [], ◌++◌, eqb, ℤ}
use Rattle.ascii.specs.Text.{ascii}
use Rattle.page.specs.Numbers.{digits_of, decimal_text}
use Rattle.zone.specs.declared.dates.SystemTime.{SystemTime}
use Rattle.zone.specs.declared.rules.Rule.{Rule}
use Rattle.zone.specs.Dates.{is_set}
use Rattle.zone.specs.Rules.{standard_sum, daylight_sum}
use Rattle.words.specs.Names.{weekday_name, month_name, occurrence_name}
use Rattle.words.specs.Signed.{signed_text}

-- UTC less local is -60 minutes
unfoldable pub bias_text : ℤ → List ℕ
bias_text bias = ascii "UTC less local is " ++ signed_text bias ++ ascii " minutes"

-- the last Sunday of October
unfoldable pub yearly_text : SystemTime → List ℕ
yearly_text d =
    ascii "the "
    ++ ascii (occurrence_name d.day)
    ++ ascii " "
    ++ ascii (weekday_name d.weekday)
    ++ ascii " of "
    ++ ascii (month_name d.month)

-- 2023-10-29
unfoldable pub day_text : SystemTime → List ℕ
day_text d = digits_of 4 d.year ++ ascii "-" ++ digits_of 2 d.month ++ ascii "-" ++ digits_of 2 d.day

-- on a weekday of every year, or on that day of that year
unfoldable pub when_text : SystemTime → List ℕ
when_text d = cond (eqb d.year 0) (yearly_text d) (day_text d)

-- seconds and milliseconds, :59.999; nothing where both are zero
unfoldable pub seconds_text : ℕ → ℕ → List ℕ
seconds_text s ms = cond (eqb s 0 && eqb ms 0) [] (ascii ":" ++ digits_of 2 s ++ ascii "." ++ digits_of 3 ms)

-- the day, and the time of day, 03:00 or 23:59:59.999
unfoldable pub switch_text : SystemTime → List ℕ
switch_text d =
    ascii ", from "
    ++ when_text d
    ++ ascii " "
    ++ digits_of 2 d.hour
    ++ ascii ":"
    ++ digits_of 2 d.minute
    ++ seconds_text d.second d.millisecond

-- standard time, or daylight time: its bias, and from when on
unfoldable pub half_text : List ℕ → ℤ → SystemTime → List ℕ
half_text title bias date = title ++ bias_text bias ++ switch_text date ++ ascii "\n"

-- dates set: each sum, from its date on; else the bias alone counts
unfoldable pub biases_text : Rule → List ℕ
biases_text r =
    cond (is_set r.standard_date)
    (half_text (ascii "  standard time: ") (standard_sum r) r.standard_date
    ++ half_text (ascii "  daylight time: ") (daylight_sum r) r.daylight_date)
    (ascii "  all year: " ++ bias_text r.bias ++ ascii "\n")

-- rule from the year 2007 on, active
unfoldable pub head_text : Rule → List ℕ
head_text r = ascii "rule from the year " ++ decimal_text r.year ++ ascii " on" ++ cond r.active (ascii ", active\n") (ascii "\n")

-- a line for its year and mark, and one for each of its biases
unfoldable pub rule_text : Rule → List ℕ
rule_text r = head_text r ++ biases_text r
