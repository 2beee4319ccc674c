-- A TIME as text, as 2023-10-30T05:00:00.1234567.
use Rattle.std.specs.Prelude.{ℕ, zero, suc, ◌%◌, cond, List, [], ◌++◌, ltb, ℤ, pos, negsuc, nat_abs}
use Rattle.days.specs.Ticks.{second}
use Rattle.calendar.specs.declared.fields.TimeFields.{TimeFields}
use Rattle.calendar.specs.Fields.{fields_of}
use Rattle.page.specs.Characters.{dash, point, colon, letter_t, letter_z}
use Rattle.page.specs.Numbers.{digits_of}

-- four digits, five above 9999
unfoldable pub year_text : ℕ → List ℕ
year_text y = digits_of (cond (ltb 9999 y) 5 4) y

-- 2023-10-30
unfoldable pub date_text : ℕ → ℕ → ℕ → List ℕ
date_text y m d = year_text y ++ dash ++ digits_of 2 m ++ dash ++ digits_of 2 d

-- 05:00:00
unfoldable pub hour_text : ℕ → ℕ → ℕ → List ℕ
hour_text h m s = digits_of 2 h ++ colon ++ digits_of 2 m ++ colon ++ digits_of 2 s

-- the ticks after a whole second, in seven digits; nothing where there are none
unfoldable pub fraction_text : ℕ → List ℕ
fraction_text zero = []
fraction_text (suc n) = point ++ digits_of 7 (suc n)

-- a tick's date and time of day
unfoldable pub clock_text : ℕ → List ℕ
clock_text n =
    let f : TimeFields = fields_of n in
    date_text (nat_abs f.year) (nat_abs f.month) (nat_abs f.day)
    ++ letter_t
    ++ hour_text (nat_abs f.hour) (nat_abs f.minute) (nat_abs f.second)
    ++ fraction_text (n % second)

-- a TIME as a clock shows it; a negative one has no date
unfoldable pub clock_shown : ℤ → List ℕ
clock_shown (pos n) = clock_text n
clock_shown (negsuc n) = dash

-- the same in UTC
unfoldable pub time_shown : ℤ → List ℕ
time_shown (pos n) = clock_text n ++ letter_z
time_shown (negsuc n) = dash
