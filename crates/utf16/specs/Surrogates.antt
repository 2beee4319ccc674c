-- Names in UTF-16 and their lone surrogates: document 02, R-2.
use Rattle.std.specs.Prelude.{ℕ, ◌+◌, ◌*◌, Bool, false, not, ◌&&◌, ◌||◌, List, [], ◌∷◌, get_or}
use Rattle.calendar.specs.Ranges.{within}

-- the 16-bit units that bytes hold, the low byte of each first; a byte alone at the end is none
unfoldable pub units_of : List ℕ → List ℕ
units_of [] = []
units_of (low ∷ []) = []
units_of (low ∷ high ∷ s) = (low + 256 * high) ∷ units_of s

-- a character outside the first plane is two units, a high surrogate and a low one
abbrev pub is_high : ℕ → Bool
is_high unit = within 0xD800 0xDBFF unit

abbrev pub is_low : ℕ → Bool
is_low unit = within 0xDC00 0xDFFF unit

-- Whether a unit is a lone surrogate, by the units directly before and after it: a high one is not directly followed by a low one, or a low one has no high one directly before it.
abbrev pub is_lone : ℕ → ℕ → ℕ → Bool
is_lone before unit after = (is_high unit && not (is_low after)) || (is_low unit && not (is_high before))

-- Whether one of some units is, by the unit directly before them. Where no unit stands before or after, 0 is taken, which is no surrogate.
unfoldable pub any_lone : ℕ → List ℕ → Bool
any_lone before [] = false
any_lone before (unit ∷ l) = is_lone before unit (get_or l 0 0) || any_lone unit l

-- whether a name has one, all of whose bytes these are
abbrev pub has_lone_surrogate : List ℕ → Bool
has_lone_surrogate name = any_lone 0 (units_of name)
