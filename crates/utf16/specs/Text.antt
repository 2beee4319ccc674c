-- Text in UTF-16. No contract rests on this: laws say by it what a name without a lone surrogate is.
use Rattle.std.specs.Prelude.{ℕ, ◌+◌, ◌-◌, ◌/◌, ◌%◌, ◌≤◌, ◌≡◌, false, cond, List, [], ◌∷◌, ◌++◌, ltb}
use Rattle.utf16.specs.Surrogates.{is_high, is_low}

-- a character is a number up to 10FFFF that is no surrogate
pub record Character (c : ℕ) : Type 0 where
  pub in_range : c ≤ 0x10FFFF
  pub no_high : is_high c ≡ false
  pub no_low : is_low c ≡ false

-- One of the first plane is one unit. Of another one, what it is above 10000 has 20 bits: the upper ten stand in a high surrogate, the lower ten in a low one.
abbrev pub encoded : ℕ → List ℕ
encoded c = cond (ltb c 0x10000) (c ∷ []) ((0xD800 + (c - 0x10000) / 0x400) ∷ (0xDC00 + (c - 0x10000) % 0x400) ∷ [])

unfoldable pub utf16 : List ℕ → List ℕ
utf16 [] = []
utf16 (c ∷ text) = encoded c ++ utf16 text

abbrev pub AllCharacters : List ℕ → Type 0
AllCharacters [] = Unit {0}
AllCharacters (c ∷ text) = Character c × AllCharacters text

-- a text whose units these are
pub record TextOf (units : List ℕ) : Type 0 where
  pub text : List ℕ
  pub characters : AllCharacters text
  pub encodes : utf16 text ≡ units
