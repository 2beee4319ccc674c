-- The names that stand for every other number, too.
use Prim.Native.Nat.{ℕ, zero, suc, ◌+◌, ◌≤◌}
use mathlib.Core.Path.{◌≡◌, refl}
use native.Mathlib.Omega.{arith}
use lib.ListN.{get_or-eq_default}
use Rattle.words.specs.Names.{weekdays, weekday_name, months, month_name, occurrences, occurrence_name}

above : (n : ℕ) {m : ℕ} → n ≤ m → (m ≡ n → ⊥) → n + 1 ≤ m
above n h e = omega arith

pub other-weekday : (w : ℕ) → (w ≡ 0 → ⊥) → (w ≡ 1 → ⊥) → (w ≡ 2 → ⊥) → (w ≡ 3 → ⊥) → (w ≡ 4 → ⊥) → (w ≡ 5 → ⊥) → weekday_name w ≡ "Saturday"
unfolding weekday_name
other-weekday w a b c d e f =
    let h : 6 ≤ w = omega arith in
    get_or-eq_default weekdays "Saturday" h

pub other-occurrence : (d : ℕ) → (d ≡ 1 → ⊥) → (d ≡ 2 → ⊥) → (d ≡ 3 → ⊥) → (d ≡ 4 → ⊥) → occurrence_name d ≡ "last"
unfolding occurrence_name
other-occurrence zero a b c e = refl
other-occurrence (suc d) a b c e =
    let h : 5 ≤ suc d = omega arith in
    get_or-eq_default occurrences "last" h

pub other-month : (m : ℕ) → (m ≡ 1 → ⊥) → (m ≡ 2 → ⊥) → (m ≡ 3 → ⊥) → (m ≡ 4 → ⊥) → (m ≡ 5 → ⊥) → (m ≡ 6 → ⊥) → (m ≡ 7 → ⊥) → (m ≡ 8 → ⊥)
    → (m ≡ 9 → ⊥) → (m ≡ 10 → ⊥) → (m ≡ 11 → ⊥) → month_name m ≡ "December"
unfolding month_name
other-month zero a b c d e f g h i j k = refl
other-month (suc m) a b c d e f g h i j k =
    let one : 1 ≤ suc m = omega arith in
    let five = above 4 (above 3 (above 2 (above 1 one a) b) c) d in
    let nine = above 8 (above 7 (above 6 (above 5 five e) f) g) h in
    let l : 12 ≤ suc m = above 11 (above 10 (above 9 nine i) j) k in
    get_or-eq_default months "December" l
