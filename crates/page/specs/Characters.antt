-- Characters by their ASCII codes.
use Rattle.std.specs.Prelude.{ℕ, List}
use Rattle.ascii.specs.Text.{byte, ascii}

abbrev pub blank : ℕ
blank = byte " "

-- the digit 0; the others follow it
abbrev pub zero_digit : ℕ
zero_digit = byte "0"

abbrev pub dash : List ℕ
dash = ascii "-"

abbrev pub point : List ℕ
point = ascii "."

abbrev pub colon : List ℕ
colon = ascii ":"

abbrev pub letter_t : List ℕ
letter_t = ascii "T"

abbrev pub letter_z : List ℕ
letter_z = ascii "Z"
