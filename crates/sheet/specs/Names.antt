-- The words on a sheet.
use Rattle.std.specs.Prelude.{ℕ, List}
use Rattle.ascii.specs.Text.{ascii}

abbrev pub sunday : List ℕ
sunday = ascii "Sunday"

abbrev pub monday : List ℕ
monday = ascii "Monday"

abbrev pub tuesday : List ℕ
tuesday = ascii "Tuesday"

abbrev pub wednesday : List ℕ
wednesday = ascii "Wednesday"

abbrev pub thursday : List ℕ
thursday = ascii "Thursday"

abbrev pub friday : List ℕ
friday = ascii "Friday"

abbrev pub saturday : List ℕ
saturday = ascii "Saturday"

abbrev pub total : List ℕ
total = ascii "total"

abbrev pub counted_up_to : List ℕ
counted_up_to = ascii "counted up to "

abbrev pub heading : List ℕ
heading = ascii "weekday,hours,minutes,ticks,counted_up_to\n"

abbrev pub comma : List ℕ
comma = ascii ","

abbrev pub line_end : List ℕ
line_end = ascii "\n"
