-- Bytes written as hex text: two digits a byte. Blanks, commas, backslashes and line ends are passed over, as registry exports have them.
use Rattle.std.specs.Prelude.{ℕ, ◌+◌, ◌*◌, ◌-◌, Bool, cond, ◌||◌, List, [], ◌∷◌, ◌++◌, length, take, leb, eqb, Option, Some, None}
use Rattle.ascii.specs.Text.{byte}
use Rattle.calendar.specs.Ranges.{within}
use Rattle.hex_text.specs.declared.Pending.{Pending}

-- tab, line end, carriage return, blank, comma, backslash
abbrev pub is_gap : ℕ → Bool
is_gap b = (((within (byte "\t") (byte "\n") b || eqb b (byte "\r")) || eqb b (byte " ")) || eqb b (byte ",")) || eqb b (byte "\\")

-- a hex digit's value; 16 stands for a byte that is passed over, and 17 for any other
abbrev pub digit_of : ℕ → ℕ
digit_of b =
    cond (within (byte "0") (byte "9") b) (b - byte "0")
    (cond (within (byte "A") (byte "F") b) (b - 55)
    (cond (within (byte "a") (byte "f") b) (b - 87)
    (cond (is_gap b) 16 17)))

abbrev pub joined : List ℕ → Option (List ℕ) → Option (List ℕ)
joined front None = None
joined front (Some rest) = Some (front ++ rest)

-- The bytes of a text, where `high` is a first digit that waits for its second; 16: none waits. None where another byte stands in the text, or half a byte is left.
unfoldable pub read_hex : ℕ → List ℕ → Option (List ℕ)
read_hex high [] = cond (eqb high 16) (Some []) None
read_hex high (b ∷ text) =
    cond (eqb (digit_of b) 17) None
    (cond (eqb (digit_of b) 16) (read_hex high text)
    (cond (eqb high 16) (read_hex (digit_of b) text)
    (joined ((high * 16 + digit_of b) ∷ []) (read_hex 16 text))))

-- what fits in so many bytes
abbrev pub fitting : ℕ → Option (List ℕ) → Option (List ℕ)
fitting room None = None
fitting room (Some bytes) = cond (leb (length bytes) room) (Some bytes) None

-- a record's bytes, so many at the start of lent ones, if there is one
abbrev pub bytes_in : Option ℕ → List ℕ → Option (List ℕ)
bytes_in None out = None
bytes_in (Some len) out = Some (take len out)

-- hex text of at least one byte is its bytes, and any other text is itself
abbrev pub or_text : ℕ → List ℕ → Option (List ℕ) → Option (List ℕ)
or_text room text None = fitting room (Some text)
or_text room text (Some []) = fitting room (Some text)
or_text room text (Some (b ∷ bytes)) = Some (b ∷ bytes)

-- the record of a text, in so many bytes
abbrev pub record_of : ℕ → List ℕ → Option (List ℕ)
record_of room text = or_text room text (fitting room (read_hex 16 text))

-- ---- for the inner functions
-- what a text comes to, from bytes and a digit that were read before the rest of it
unfoldable pub still_read : List ℕ → Pending → List ℕ → Option (List ℕ)
still_read out p rest = cond p.sound (fitting (length out) (joined (take p.len out) (read_hex p.high rest))) None
