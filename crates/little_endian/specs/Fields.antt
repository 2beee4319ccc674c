-- A field of a record: w bytes from the place at, and the number that they are.
use Rattle.std.specs.Prelude.{ℕ, ◌+◌, List, ℤ, length, take, drop, leb}
use Rattle.refusal.specs.Outcome.{Outcome, answered, require, ◌>>◌}
use Rattle.little_endian.specs.Bytes.{from_bytes}
use Rattle.little_endian.specs.TwosComplement.{signed}

-- the field's bytes
abbrev pub part : List ℕ → ℕ → ℕ → List ℕ
part s at w = take w (drop at s)

-- its number without a sign
unfoldable pub unsigned_at : List ℕ → ℕ → ℕ → ℕ
unsigned_at s at w = from_bytes (part s at w)

-- its number with a sign
abbrev pub signed_at : List ℕ → ℕ → ℕ → ℤ
signed_at s at w = signed w (unsigned_at s at w)

-- its number without a sign, or refusal 1 where the bytes end before the field does
abbrev pub next_field : List ℕ → ℕ → ℕ → Outcome ℕ
next_field s at w = require (leb (at + w) (length s)) 1 >> answered (unsigned_at s at w)
