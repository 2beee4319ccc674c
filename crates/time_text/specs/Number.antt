-- A TIME as a plain number: a signed 64-bit count of ticks.
use Rattle.std.specs.Prelude.{ℕ, cond, List, pos, neg_ℤ, get_or, drop, eqb, ℤ, Option, Some, None, Result, Ok, Err}
use Rattle.calendar.specs.Fields.{last_time}
use Rattle.time_text.specs.declared.faults.TextFault.{TextFault}
use Rattle.time_text.specs.declared.faults.TextFault.TheVariants.{NotATime}
use Rattle.ascii.specs.Text.{byte}
use Rattle.time_text.specs.Decimal.{decimal_of}

-- how far a signed 64-bit number goes below zero
abbrev pub least : ℕ
least = 9223372036854775808

abbrev pub from_zero : Option ℕ → Result ℤ TextFault
from_zero (Some n) = Ok (pos n)
from_zero None = Err NotATime

abbrev pub below_zero : Option ℕ → Result ℤ TextFault
below_zero (Some n) = Ok (neg_ℤ (pos n))
below_zero None = Err NotATime

-- Digits, with `-` in front of a negative number.
unfoldable pub number_time : List ℕ → Result ℤ TextFault
number_time s = cond (eqb (get_or s 0 0) (byte "-")) (below_zero (decimal_of (drop 1 s) least)) (from_zero (decimal_of s last_time))
