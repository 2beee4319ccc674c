-- Whole numbers from a to before b, those of them that pass a test, and how many they are. Runs and windows of ticks are counted so.
use Rattle.std.specs.Prelude.{ℕ, zero, suc, ◌-◌, ◌<◌, ◌≡◌, Bool, true, false, List, [], ◌∷◌, ◌⊎◌, length}

-- the n numbers from a on, in rising order
unfoldable pub up_from : ℕ → ℕ → List ℕ
up_from a zero = []
up_from a (suc n) = a ∷ up_from (suc a) n

unfoldable pub keep : (ℕ → Bool) → List ℕ → List ℕ
keep p [] = []
keep p (x ∷ l) = elim (p x) [ true ↦ x ∷ keep p l | false ↦ keep p l ]

-- the numbers from a to before b that pass the test, and how many they are
abbrev pub among : (ℕ → Bool) → ℕ → ℕ → List ℕ
among p a b = keep p (up_from a (b - a))

abbrev pub count_among : (ℕ → Bool) → ℕ → ℕ → ℕ
count_among p a b = length (among p a b)

-- each number is below the next
abbrev pub Rises : List ℕ → Type 0
Rises [] = Unit {0}
Rises (x ∷ []) = Unit {0}
Rises (x ∷ y ∷ l) = (x < y) × Rises (y ∷ l)

-- x is one of the list
abbrev pub In : {A : Type 0} → A → List A → Type 0
In x [] = ⊥
In x (y ∷ l) = (x ≡ y) ⊎ In x l
