-- Lines that the definitions give.
use mathlib.Core.Path.{◌≡◌, refl}
use lib.IntN.{pos}
use Rattle.ascii.specs.Text.{ascii}
use Rattle.days.specs.Years.{leap, days_in_year, year_from}
use Rattle.days.specs.Months.{days_in_month}
use Rattle.days.specs.Dates.{date_from}
use Rattle.calendar.specs.Fields.{fields_of}
use Rattle.page.specs.Pages.{left_text}
use Rattle.page.specs.Numbers.{digits_of, places_within, places, decimal_text, right_text}
use Rattle.page.specs.Times.{year_text, date_text, hour_text, fraction_text, clock_text, time_shown}
use Rattle.sheet.specs.Names.{sunday}
use Rattle.sheet.specs.Table.{row_text}
use Rattle.sheet.specs.Csv.{numbers_text, line_text}

sunday-row : row_text sunday 22010400000000 ≡ ascii "Sunday       611:24\n"
unfolding row_text left_text right_text decimal_text places places_within digits_of
sunday-row = refl

sunday-line : line_text (pos 133431156000000000) sunday 22010400000000 ≡ ascii "Sunday,611,24,22010400000000,2023-10-30T05:00:00Z\n"
unfolding line_text numbers_text decimal_text places places_within digits_of time_shown clock_text year_text date_text hour_text fraction_text fields_of leap days_in_month days_in_year year_from date_from
sunday-line = refl
