-- The number of a revision of the time paper, as a text.
use Rattle.std.specs.Prelude.{ℕ, List, Option, Some, None}
use Rattle.time_text.specs.Decimal.{decimal_of}

abbrev pub value_or0 : Option ℕ → ℕ
value_or0 (Some n) = n
value_or0 None = 0

-- Digits, up to 32 bits. Any other text says 0, which is no revision.
abbrev pub revision_number : List ℕ → ℕ
revision_number s = value_or0 (decimal_of s 4294967295)
