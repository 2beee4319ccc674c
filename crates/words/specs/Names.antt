-- Names of weekdays, months and occurrences.
use Rattle.std.specs.Prelude.{ℕ, List, [], ◌∷◌, get_or}
use Prim.Native.String.{String}

-- from Sunday, which is 0
abbrev pub weekdays : List String
weekdays = "Sunday" ∷ "Monday" ∷ "Tuesday" ∷ "Wednesday" ∷ "Thursday" ∷ "Friday" ∷ []

-- Saturday is 6, and stands for a number that is no weekday
unfoldable pub weekday_name : ℕ → String
weekday_name w = get_or weekdays w "Saturday"

-- January is 1
abbrev pub months : List String
months =
    "December"
    ∷ "January"
    ∷ "February"
    ∷ "March"
    ∷ "April"
    ∷ "May"
    ∷ "June"
    ∷ "July"
    ∷ "August"
    ∷ "September"
    ∷ "October"
    ∷ "November"
    ∷ []

-- December is 12, and stands for a number that is no month
unfoldable pub month_name : ℕ → String
month_name m = get_or months m "December"

-- which one of its weekday in a month
abbrev pub occurrences : List String
occurrences = "last" ∷ "first" ∷ "second" ∷ "third" ∷ "fourth" ∷ []

-- 5 is the last
unfoldable pub occurrence_name : ℕ → String
occurrence_name d = get_or occurrences d "last"
