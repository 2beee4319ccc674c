-- Totals: one for each value of a key, as for each weekday, grown by the ticks that have that value. Any number of totals, and any key.
use Rattle.std.specs.Prelude.{ℕ, zero, suc, ◌+◌, List, [], ◌∷◌, get_or, eqb}
use Rattle.days.specs.Counting.{count_among}

-- f i, f (i + 1), .., n of them
abbrev pub table_from : ℕ → ℕ → (ℕ → ℕ) → List ℕ
table_from i zero f = []
table_from i (suc n) f = f i ∷ table_from (suc i) n f

-- f 0, f 1, .., f (n - 1)
abbrev pub table : ℕ → (ℕ → ℕ) → List ℕ
table n f = table_from 0 n f

abbrev pub sum : List ℕ → ℕ
sum [] = 0
sum (x ∷ l) = x + sum l

-- how many numbers from a to before b have the value v of the key
abbrev pub count_with : (ℕ → ℕ) → ℕ → ℕ → ℕ → ℕ
count_with key v a b = count_among (λ t. eqb (key t) v) a b

-- n totals, each grown by the numbers from a to before b that have its value
unfoldable pub grown : ℕ → (ℕ → ℕ) → List ℕ → ℕ → ℕ → List ℕ
grown n key totals a b = table n (λ v. get_or totals v 0 + count_with key v a b)
