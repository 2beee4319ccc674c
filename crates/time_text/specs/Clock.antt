-- A date and a time of day, as 2023-03-26T00:00:00 or 2023-03-26T00:00:00.25.
use Rattle.std.specs.Prelude.{ℕ, ◌+◌, ◌-◌, ◌*◌, ◌^◌, Bool, true, false, cond, ◌&&◌, ◌||◌, List, [], ◌∷◌, ◌++◌, ℤ, pos, length, get_or, take, drop, replicate, leb, eqb, Result, Ok, Err}
use Rattle.refusal.specs.Number.{refusal_of}
use Rattle.refusal.specs.Outcome.{Outcome, refused, answered, require, ◌>>=◌, ◌>>◌}
use Rattle.calendar.specs.declared.fields.TimeFields.{TimeFields}
use Rattle.calendar.specs.Ranges.{within}
use Rattle.calendar.specs.Revisions.{check_revision}
use Rattle.calendar.specs.Fields.{last_time, not_negative, fields_to_time}
use Rattle.time_text.specs.declared.faults.TextFault.{TextFault}
use Rattle.time_text.specs.declared.faults.TextFault.TheVariants.{Refused, NotATime}
use Rattle.ascii.specs.Text.{byte, ascii}
use Rattle.time_text.specs.Decimal.{is_digit, value_of}

-- ---- the form
-- in a template `d` stands for any digit, and any other byte for itself
abbrev pub fits : ℕ → ℕ → Bool
fits t b = cond (eqb t (byte "d")) (is_digit b) (eqb t b)

-- the text is formed like the start of the template
unfoldable pub matches : List ℕ → List ℕ → Bool
matches t [] = true
matches [] (b ∷ s) = false
matches (x ∷ t) (b ∷ s) = fits x b && matches t s

-- the year has four digits, or five where the fifth byte is a digit too
abbrev pub year_digits : List ℕ → ℕ
year_digits s = cond (is_digit (get_or s 4 0)) 5 4

-- a clock text whose year has w digits, with all seven digits of the fraction
abbrev pub template : ℕ → List ℕ
template w = replicate w (byte "d") ++ ascii "-dd-ddTdd:dd:dd.ddddddd"

-- It ends after the seconds, or after one to seven digits of the fraction.
abbrev pub clock_ends : ℕ → ℕ → Bool
clock_ends w n = eqb n (w + 15) || within (w + 17) (w + 23) n

abbrev pub is_clock : ℕ → List ℕ → Bool
is_clock w s = clock_ends w (length s) && matches (template w) s

-- ---- the meaning
-- the number of the n digits at a place
unfoldable pub number_at : List ℕ → ℕ → ℕ → ℕ
number_at s at n = value_of (take n (drop at s))

unfoldable pub clock_fields : ℕ → List ℕ → TimeFields
clock_fields w s =
    record {
      year = pos (number_at s 0 w);
      month = pos (number_at s (w + 1) 2);
      day = pos (number_at s (w + 4) 2);
      hour = pos (number_at s (w + 7) 2);
      minute = pos (number_at s (w + 10) 2);
      second = pos (number_at s (w + 13) 2);
      milliseconds = pos 0;
      weekday = pos 0;
    }

-- the ticks of a fraction of a second, by its digits: a tick is the seventh
unfoldable pub fraction_ticks : List ℕ → ℕ
fraction_ticks f = value_of f * 10 ^ (7 - length f)

-- a TIME some ticks later, or refusal 15 where that is after the last TIME
unfoldable pub later : ℤ → ℕ → Outcome ℤ
later t ticks = do
  n ← not_negative t
  require (leb (n + ticks) last_time) 15
  answered (pos (n + ticks))

-- By a revision: another number is refused 22, and a year that no field holds 15. Then the fields decide, and the fraction is added.
unfoldable pub clock_outcome : ℕ → ℕ → List ℕ → Outcome ℤ
clock_outcome ρ w s = do
  check_revision ρ
  require (leb (number_at s 0 w) 32767) 15
  t ← fields_to_time ρ (clock_fields w s)
  later t (fraction_ticks (drop (w + 16) s))

abbrev pub of_outcome : Outcome ℤ → Result ℤ TextFault
of_outcome (refused n) = Err (Refused (refusal_of n))
of_outcome (answered t) = Ok t

unfoldable pub clock_time : ℕ → List ℕ → Result ℤ TextFault
clock_time ρ s = let w : ℕ = year_digits s in cond (is_clock w s) (of_outcome (clock_outcome ρ w s)) (Err NotATime)
