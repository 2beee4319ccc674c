-- Numbers in decimal.
use Rattle.std.specs.Prelude.{ℕ, zero, suc, ◌+◌, ◌-◌, ◌/◌, ◌%◌, true, false, List, [], ◌∷◌, ◌++◌, ltb, replicate}
use Rattle.page.specs.Characters.{blank, zero_digit}

-- the last k digits of n, the most significant first
unfoldable pub digits_of : ℕ → ℕ → List ℕ
digits_of zero n = []
digits_of (suc k) n = digits_of k (n / 10) ++ ((zero_digit + n % 10) ∷ [])

-- how many digits n has, counted no further than k
unfoldable pub places_within : ℕ → ℕ → ℕ
places_within zero n = 0
places_within (suc k) n =
    elim (ltb n 10) [
      | true ↦ 1
      | false ↦ suc (places_within k (n / 10))
    ]

-- how many digits n has: no n has more than n + 1
unfoldable pub places : ℕ → ℕ
places n = places_within (suc n) n

-- n in decimal, with no zeros in front
unfoldable pub decimal_text : ℕ → List ℕ
decimal_text n = digits_of (places n) n

-- n in decimal at the right of a column
unfoldable pub right_text : ℕ → ℕ → List ℕ
right_text width n = replicate (width - places n) blank ++ decimal_text n
