-- Texts that the definitions give.
use mathlib.Core.Path.{◌≡◌, refl}
use lib.IntN.{pos}
use Rattle.ascii.specs.Text.{ascii}
use Rattle.days.specs.Years.{leap, days_in_year, year_from}
use Rattle.days.specs.Months.{days_in_month}
use Rattle.days.specs.Dates.{date_from}
use Rattle.calendar.specs.Fields.{fields_of}
use Rattle.page.specs.Numbers.{digits_of, places_within, places, decimal_text, right_text}
use Rattle.page.specs.Times.{year_text, date_text, hour_text, fraction_text, clock_text, time_shown}

zero-shown : decimal_text 0 ≡ ascii "0"
unfolding decimal_text places places_within digits_of
zero-shown = refl

greatest-shown : decimal_text 18446744073709551615 ≡ ascii "18446744073709551615"
unfolding decimal_text places places_within digits_of
greatest-shown = refl

in-column : right_text 6 611 ≡ ascii "   611"
unfolding right_text decimal_text places places_within digits_of
in-column = refl

first-tick : time_shown (pos 1) ≡ ascii "1601-01-01T00:00:00.0000001Z"
unfolding time_shown clock_text year_text date_text hour_text fraction_text digits_of fields_of leap days_in_month days_in_year year_from date_from
first-tick = refl

a-monday : time_shown (pos 133431156000000000) ≡ ascii "2023-10-30T05:00:00Z"
unfolding time_shown clock_text year_text date_text hour_text fraction_text digits_of fields_of leap days_in_month days_in_year year_from date_from
a-monday = refl
