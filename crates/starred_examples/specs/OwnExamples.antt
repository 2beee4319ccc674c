-- UTC to local in rows of our own choice, as one list with one claim over it. The answers were worked out from document 01 by hand.
use Rattle.std.specs.Prelude.{ℕ, ◌+◌, ◌-◌, ◌≡◌, Bool, true, false, List, [], ◌∷◌, map, ℤ, pos, negsuc}
use Rattle.refusal.specs.Outcome.{Outcome, refused, answered}
use Rattle.calendar.specs.Fields.{tick_of}
use Rattle.zone.specs.declared.dates.SystemTime.{SystemTime}
use Rattle.zone.specs.declared.rules.Rule.{Rule}
use Rattle.zone.specs.declared.ticks.UtcTick.{UtcTick}
use Rattle.zone.specs.declared.ticks.LocalTick.{LocalTick}
use Rattle.zone.specs.Dates.{unset}
use Rattle.zone.specs.Ticks.{utc_tick, local_tick}
use Rattle.local_time.specs.LocalTime.{utc_to_local}
use Rattle.starred_examples.specs.Sheet.{at}

-- every year, the kth one with weekday w of month m (5 is the last one, Sunday is 0); and a day of one year
abbrev pub yearly_at : ℕ → ℕ → ℕ → ℕ → ℕ → ℕ → ℕ → SystemTime
yearly_at m k w h mi s ms = record { year = 0; month = m; weekday = w; day = k; hour = h; minute = mi; second = s; millisecond = ms }

abbrev pub once_at : ℕ → ℕ → ℕ → ℕ → ℕ → ℕ → ℕ → SystemTime
once_at y m d h mi s ms = record { year = y; month = m; weekday = 0; day = d; hour = h; minute = mi; second = s; millisecond = ms }

-- the same at a whole minute
abbrev pub yearly : ℕ → ℕ → ℕ → ℕ → ℕ → SystemTime
yearly m k w h mi = yearly_at m k w h mi 0 0

abbrev pub once : ℕ → ℕ → ℕ → ℕ → ℕ → SystemTime
once y m d h mi = once_at y m d h mi 0 0

-- year, mark, Bias, StandardBias, DaylightBias, standard date, daylight date; `negsuc n` is -(n + 1)
abbrev pub rule : ℕ → Bool → ℤ → ℤ → ℤ → SystemTime → SystemTime → Rule
rule y mark b s d standard daylight =
    record { year = y; active = mark; bias = b; standard_bias = s; daylight_bias = d; standard_date = standard; daylight_date = daylight }

pub record Example : Type 0 where
  pub row : List Rule
  pub utc : UtcTick
  pub local : Outcome LocalTick

abbrev pub shows : List Rule → ℕ → ℕ → Example
shows row u l = record { row = row; utc = utc_tick u; local = answered (local_tick l) }

abbrev pub refuses : List Rule → ℤ → ℕ → Example
refuses row t n = record { row = row; utc = record { 0 = t }; local = refused n }

-- ---- the rows
-- the south, 12 and 13 hours before UTC, from 2007: standard from the first Sunday of April 03:00, daylight from the last Sunday of September 02:00
abbrev pub south : List Rule
south = rule 2007 true (negsuc 719) (pos 0) (negsuc 59) (yearly 4 1 0 3 0) (yearly 9 5 0 2 0) ∷ []

-- dates of 2005: bias sums 330 and, in daylight time, 240; Bias alone is 300
abbrev pub dated : List Rule
dated = rule 2004 true (pos 300) (pos 30) (negsuc 59) (once 2005 10 30 2 0) (once 2005 4 3 2 0) ∷ []

-- dates of 2011, standard before daylight: bias sums -600 and, in daylight time, -660
abbrev pub dated_south : List Rule
dated_south = rule 2010 true (negsuc 599) (pos 0) (negsuc 59) (once 2011 4 3 3 0) (once 2011 10 2 2 0) ∷ []

-- daylight from the first Monday of January 00:30, which is 1 January in 2024: bias sums -60 and -120
abbrev pub new_year : List Rule
new_year = rule 0 true (negsuc 59) (pos 0) (negsuc 59) (yearly 10 5 0 3 0) (yearly 1 1 1 0 30) ∷ []

-- standard from 2024-12-31 22:00, which is in 2025 in UTC: bias sums 300 and 240
abbrev pub old_year : List Rule
old_year = rule 0 true (pos 300) (pos 0) (negsuc 59) (once 2024 12 31 22 0) (once 2024 6 1 2 0) ∷ []

-- three rules with no dates, where Bias counts alone: 0, then 90, then -90; the one of 2005 is marked active
abbrev pub three : List Rule
three =
    rule 2000 false (pos 0) (pos 45) (pos 45) unset unset
    ∷ rule 2005 true (pos 90) (pos 45) (pos 45) unset unset
    ∷ rule 2010 false (negsuc 89) (pos 45) (pos 45) unset unset
    ∷ []

-- eight hours after UTC, always
abbrev pub west : List Rule
west = rule 0 true (pos 480) (pos 0) (pos 0) unset unset ∷ []

-- zone P's biases, with both switches at 23:59, second s and millisecond ms: on the last Sundays of every year, and once, in 2024
abbrev pub late : ℕ → ℕ → List Rule
late s ms = rule 0 true (negsuc 59) (pos 0) (negsuc 59) (yearly_at 10 5 0 23 59 s ms) (yearly_at 3 5 0 23 59 s ms) ∷ []

abbrev pub late_once : ℕ → ℕ → List Rule
late_once s ms = rule 0 true (negsuc 59) (pos 0) (negsuc 59) (once_at 2024 10 31 23 59 s ms) (once_at 2024 2 29 23 59 s ms) ∷ []

-- ---- the list
unfoldable pub examples : List Example
examples =
    -- the south's two switches in 2023, and a tick either side
    shows south (at 2023 4 1 14 0 - 1) (at 2023 4 2 3 0 - 1)
    ∷ shows south (at 2023 4 1 14 0) (at 2023 4 2 2 0)
    ∷ shows south (at 2023 4 1 14 0 + 1) (at 2023 4 2 2 0 + 1)
    ∷ shows south (at 2023 9 23 14 0 - 1) (at 2023 9 24 2 0 - 1)
    ∷ shows south (at 2023 9 23 14 0) (at 2023 9 24 3 0)
    ∷ shows south (at 2023 9 23 14 0 + 1) (at 2023 9 24 3 0 + 1)
    -- daylight time over a new year
    ∷ shows south (at 2024 1 1 0 0 - 1) (at 2024 1 1 13 0 - 1)
    ∷ shows south (at 2024 1 1 0 0) (at 2024 1 1 13 0)
    -- dates with a year: the year before it, that year, and the year after it, which has the standard bias sum
    ∷ shows dated (at 2004 7 1 12 0) (at 2004 7 1 6 30)
    ∷ shows dated (at 2005 4 3 7 30 - 1) (at 2005 4 3 2 0 - 1)
    ∷ shows dated (at 2005 4 3 7 30) (at 2005 4 3 3 30)
    ∷ shows dated (at 2005 7 1 12 0) (at 2005 7 1 8 0)
    ∷ shows dated (at 2005 10 30 6 0 - 1) (at 2005 10 30 2 0 - 1)
    ∷ shows dated (at 2005 10 30 6 0) (at 2005 10 30 0 30)
    ∷ shows dated (at 2006 7 1 12 0) (at 2006 7 1 6 30)
    -- the same in the south: daylight time from the UTC new year on, and up to the next one
    ∷ shows dated_south (at 2011 1 1 0 0 - 1) (at 2011 1 1 10 0 - 1)
    ∷ shows dated_south (at 2011 1 1 0 0) (at 2011 1 1 11 0)
    ∷ shows dated_south (at 2011 4 2 16 0 - 1) (at 2011 4 3 3 0 - 1)
    ∷ shows dated_south (at 2011 4 2 16 0) (at 2011 4 3 2 0)
    ∷ shows dated_south (at 2011 10 1 16 0 - 1) (at 2011 10 2 2 0 - 1)
    ∷ shows dated_south (at 2011 10 1 16 0) (at 2011 10 2 3 0)
    ∷ shows dated_south (at 2012 1 1 0 0 - 1) (at 2012 1 1 11 0 - 1)
    ∷ shows dated_south (at 2012 1 1 0 0) (at 2012 1 1 10 0)
    -- a switch whose UTC tick lies in another UTC year: the change is seen at the UTC new year
    ∷ shows new_year (at 2023 12 31 23 30) (at 2024 1 1 0 30)
    ∷ shows new_year (at 2024 1 1 0 0 - 1) (at 2024 1 1 1 0 - 1)
    ∷ shows new_year (at 2024 1 1 0 0) (at 2024 1 1 2 0)
    ∷ shows old_year (at 2025 1 1 0 0 - 1) (at 2024 12 31 20 0 - 1)
    ∷ shows old_year (at 2025 1 1 0 0) (at 2024 12 31 19 0)
    ∷ shows old_year (at 2025 1 1 2 0) (at 2024 12 31 21 0)
    -- three rules around their new years, in UTC
    ∷ refuses three (pos (at 2000 1 1 0 0 - 1)) 16
    ∷ shows three (at 2000 1 1 0 0) (at 2000 1 1 0 0)
    ∷ shows three (at 2005 1 1 0 0 - 1) (at 2005 1 1 0 0 - 1)
    ∷ shows three (at 2005 1 1 0 0) (at 2004 12 31 22 30)
    ∷ shows three (at 2010 1 1 0 0 - 1) (at 2009 12 31 22 30 - 1)
    ∷ shows three (at 2010 1 1 0 0) (at 2010 1 1 1 30)
    -- the window's two ends; before it 15 comes before 16, and the row's numbers come before 15
    ∷ refuses west (pos 315359999999999) 15
    ∷ shows west 315360000000000 315072000000000
    ∷ shows west 9223149887999999999 9223149599999999999
    ∷ refuses west (pos 9223149888000000000) 15
    ∷ refuses west (negsuc 0) 15
    ∷ shows south 9223149887999999999 9223150355999999999
    ∷ refuses south (pos 9223149888000000000) 15
    ∷ refuses south (pos 315360000000000) 16
    ∷ refuses south (pos 315359999999999) 15
    ∷ refuses south (pos 0) 15
    ∷ refuses [] (negsuc 0) 6
    -- switches at 23:59:59.999: the tick before that millisecond, its first tick, the one after it, and the next midnight, at which nothing changes
    ∷ shows (late 59 999) (tick_of 2023 3 26 22 59 59 999 - 1) (tick_of 2023 3 26 23 59 59 999 - 1)
    ∷ shows (late 59 999) (tick_of 2023 3 26 22 59 59 999) (tick_of 2023 3 27 0 59 59 999)
    ∷ shows (late 59 999) (tick_of 2023 3 26 22 59 59 999 + 1) (tick_of 2023 3 27 0 59 59 999 + 1)
    ∷ shows (late 59 999) (at 2023 3 26 23 0) (at 2023 3 27 1 0)
    ∷ shows (late 59 999) (tick_of 2023 10 29 21 59 59 999 - 1) (tick_of 2023 10 29 23 59 59 999 - 1)
    ∷ shows (late 59 999) (tick_of 2023 10 29 21 59 59 999) (tick_of 2023 10 29 22 59 59 999)
    ∷ shows (late 59 999) (tick_of 2023 10 29 21 59 59 999 + 1) (tick_of 2023 10 29 22 59 59 999 + 1)
    ∷ shows (late 59 999) (at 2023 10 29 22 0) (at 2023 10 29 23 0)
    -- the same on days of one year
    ∷ shows (late_once 59 999) (tick_of 2024 2 29 22 59 59 999 - 1) (tick_of 2024 2 29 23 59 59 999 - 1)
    ∷ shows (late_once 59 999) (tick_of 2024 2 29 22 59 59 999) (tick_of 2024 3 1 0 59 59 999)
    ∷ shows (late_once 59 999) (tick_of 2024 10 31 21 59 59 999 - 1) (tick_of 2024 10 31 23 59 59 999 - 1)
    ∷ shows (late_once 59 999) (tick_of 2024 10 31 21 59 59 999) (tick_of 2024 10 31 22 59 59 999)
    -- a second without milliseconds, and milliseconds without a second
    ∷ shows (late 59 0) (tick_of 2023 3 26 22 59 59 0 - 1) (tick_of 2023 3 26 23 59 59 0 - 1)
    ∷ shows (late 59 0) (tick_of 2023 3 26 22 59 59 0) (tick_of 2023 3 27 0 59 59 0)
    ∷ shows (late 0 1) (tick_of 2023 3 26 22 59 0 1 - 1) (tick_of 2023 3 26 23 59 0 1 - 1)
    ∷ shows (late 0 1) (tick_of 2023 3 26 22 59 0 1) (tick_of 2023 3 27 0 59 0 1)
    -- second 60, also on the last day of a month, and millisecond 1000
    ∷ refuses (late 60 0) (pos (at 2023 7 1 12 0)) 10
    ∷ refuses (late 59 1000) (pos (at 2023 7 1 12 0)) 10
    ∷ refuses (late_once 60 0) (pos (at 2024 7 1 12 0)) 10
    ∷ refuses (late_once 59 1000) (pos (at 2024 7 1 12 0)) 10
    ∷ []

-- the claim
unfoldable pub AllAnswered : List Example → Type 0
AllAnswered l = map (λ e. utc_to_local e.row e.utc) l ≡ map (λ e. e.local) l
