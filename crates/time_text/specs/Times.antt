-- Texts that are times, of UTC or of local time.
use Rattle.std.specs.Prelude.{ℕ, ◌-◌, cond, List, length, get_or, take, eqb, ℤ, Result, Ok, Err}
use Rattle.time_text.specs.declared.faults.TextFault.{TextFault}
use Rattle.time_text.specs.declared.faults.TextFault.TheVariants.{Refused, NotATime}
use Rattle.ascii.specs.Text.{byte}
use Rattle.calendar.specs.Revisions.{revision12}
use Rattle.time_text.specs.Number.{number_time}
use Rattle.time_text.specs.Clock.{clock_time}

-- A time of UTC: a clock text, by a revision, with `Z` behind it, or a number.
unfoldable pub utc_time : ℕ → List ℕ → Result ℤ TextFault
utc_time ρ s = let end : ℕ = length s - 1 in cond (eqb (get_or s end 0) (byte "Z")) (clock_time ρ (take end s)) (number_time s)

-- the second where the first is no time
abbrev pub or_else : Result ℤ TextFault → Result ℤ TextFault → Result ℤ TextFault
or_else (Ok t) other = Ok t
or_else (Err (Refused r)) other = Err (Refused r)
or_else (Err NotATime) other = other

-- A local time: a number, or a clock text.
abbrev pub local_time : List ℕ → Result ℤ TextFault
local_time s = or_else (number_time s) (clock_time revision12 s)
