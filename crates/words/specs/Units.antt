-- Names in 16-bit units, as zone records have them.
use Rattle.std.specs.Prelude.{ℕ, cond, List, [], ◌∷◌, ◌++◌, eqb}
use Rattle.calendar.specs.Ranges.{within}
use Rattle.ascii.specs.Text.{ascii}

-- a character of ASCII is shown, another one as a question mark; zeros fill a name up
unfoldable pub unit_text : ℕ → ℕ → List ℕ
unit_text low high = cond (eqb high 0) (cond (eqb low 0) [] (cond (within 32 126 low) (low ∷ []) (ascii "?"))) (ascii "?")

-- unit by unit, the low byte first; a byte alone at the end is no unit
unfoldable pub units_text : List ℕ → List ℕ
units_text (low ∷ high ∷ s) = unit_text low high ++ units_text s
units_text (low ∷ []) = []
units_text [] = []
