-- Numbers in decimal digits.
use Rattle.std.specs.Prelude.{ℕ, ◌+◌, ◌-◌, ◌*◌, Bool, true, cond, ◌&&◌, length, leb, Option, Some, None}
use mathlib.Core.List.{List, [], ◌∷◌, foldl}
use Rattle.calendar.specs.Ranges.{within}
use Rattle.ascii.specs.Text.{byte}

abbrev pub is_digit : ℕ → Bool
is_digit b = within (byte "0") (byte "9") b

unfoldable pub all_digits : List ℕ → Bool
all_digits [] = true
all_digits (b ∷ s) = is_digit b && all_digits s

abbrev pub digit_of : ℕ → ℕ
digit_of b = b - byte "0"

-- a number with one digit more behind it
abbrev pub with_digit : ℕ → ℕ → ℕ
with_digit n b = n * 10 + digit_of b

-- the number that digits write
unfoldable pub value_of : List ℕ → ℕ
value_of s = foldl with_digit 0 s

-- A text of one or more digits is the number that they write, where that is at most the limit; leading zeros are allowed.
-- Anything else is no number.
unfoldable pub decimal_of : List ℕ → ℕ → Option ℕ
decimal_of s most = cond (leb 1 (length s) && all_digits s && leb (value_of s) most) (Some (value_of s)) None
