-- Laws of tables f 0, f 1, .., f (n - 1), and of sums of lists.
use Prim.Native.Nat.{ℕ, zero, suc, ◌+◌, ◌*◌, ◌≤◌, ◌<◌}
use mathlib.Core.Path.{◌≡◌, refl, sym, ap, ap₂, ◌∙◌}
use mathlib.Core.Bool.{Bool, true, false, cond, ◌&&◌}
use mathlib.Core.List.{List, [], ◌∷◌}
use native.Mathlib.Numerals.{add-one}
use native.Mathlib.Nat.{suc_inj, le_of_suc-le-suc, suc-mul}
use native.Mathlib.Omega.{arith}
use lib.Dec.{eqb}
use lib.ListN.{length, get_or, set, drop, drop_of_length-le}
use lib.Seq.{drop-cons}
use borrow.Author.Tests.{ne_eqb, eqb-true, eqb-false}
use Rattle.totals.specs.Totals.{table_from, table, sum}

pub length-table : (i n : ℕ) (f : ℕ → ℕ) → length (table_from i n f) ≡ n
length-table i zero f = refl
length-table i (suc n) f = ap suc (length-table (suc i) n f)

pub same-table : (i n : ℕ) (f g : ℕ → ℕ) → ((w : ℕ) → i ≤ w → w < i + n → f w ≡ g w) → table_from i n f ≡ table_from i n g
same-table i zero f g h = refl
same-table i (suc n) f g h =
    ap₂ (λ (x : ℕ) (l : List ℕ). x ∷ l) (h i (omega arith) (omega arith)) (same-table (suc i) n f g (λ w a b. h w (omega arith) (omega arith)))

pub shift-table : (i n : ℕ) (f : ℕ → ℕ) → table_from (suc i) n f ≡ table_from i n (λ w. f (suc w))
shift-table i zero f = refl
shift-table i (suc n) f = ap (λ (l : List ℕ). f (suc i) ∷ l) (shift-table (suc i) n f)

-- a list is the table of its elements
pub table_is : (n : ℕ) (l : List ℕ) → length l ≡ n → l ≡ table n (λ w. get_or l w 0)
table_is zero [] h = refl
table_is zero (x ∷ l) h = absurd (omega arith)
table_is (suc n) [] h = absurd (omega arith)
table_is (suc n) (x ∷ l) h =
    ap (λ (m : List ℕ). x ∷ m) (table_is n l (suc_inj h) ∙ sym (shift-table 0 n (λ w. get_or (x ∷ l) w 0)))

pub get_or-table : (n : ℕ) (f : ℕ → ℕ) (d : ℕ) → d < n → get_or (table n f) d 0 ≡ f d
get_or-table zero f d h = absurd (omega arith)
get_or-table (suc n) f zero h = refl
get_or-table (suc n) f (suc d) h = ap (λ (l : List ℕ). get_or l d 0) (shift-table 0 n f) ∙ get_or-table n (λ w. f (suc w)) d (le_of_suc-le-suc h)

-- a table with one element replaced is the table of the function changed there
pub set-table : (n : ℕ) (f g : ℕ → ℕ) (d : ℕ) → d < n → ((w : ℕ) → (w ≡ d → ⊥) → f w ≡ g w) → set (table n f) d (g d) ≡ table n g
set-table zero f g d h e = absurd (omega arith)
set-table (suc n) f g zero h e = ap (λ (l : List ℕ). g 0 ∷ l) (same-table 1 n f g (λ w a b. e w (λ z. omega arith)))
set-table (suc n) f g (suc d) h e =
    let x : f 0 ≡ g 0 = e 0 (λ z. omega arith) in
    let l = set-table n (λ w. f (suc w)) (λ w. g (suc w)) d (le_of_suc-le-suc h) (λ w k. e (suc w) (λ z. k (suc_inj z))) in
    ap₂ (λ (y : ℕ) (m : List ℕ). y ∷ m) x (ap (λ (m : List ℕ). set m d (g (suc d))) (shift-table 0 n f) ∙ l ∙ sym (shift-table 0 n g))

-- ---- sums

pub sum-none : (i n : ℕ) → sum (table_from i n (λ w. 0)) ≡ 0
sum-none i zero = refl
sum-none i (suc n) = omega (arith, sum-none (suc i) n)

pub sum-add : (i n : ℕ) (f g : ℕ → ℕ) → sum (table_from i n (λ w. f w + g w)) ≡ sum (table_from i n f) + sum (table_from i n g)
sum-add i zero f g = refl
sum-add i (suc n) f g = omega (arith, sum-add (suc i) n f g)

-- a number d is found once among i, .., i + n - 1 if it is one of them
mark : ℕ → ℕ → ℕ
mark d w = cond (eqb d w) 1 0

not-here : (i n d : ℕ) → d < i → sum (table_from i n (mark d)) ≡ 0
unfolding mark
not-here i zero d h = refl
not-here i (suc n) d h = rw (ne_eqb d i (λ e. omega arith), not-here (suc i) n d (omega arith))

here : (i n d : ℕ) → i ≤ d → d < i + n → sum (table_from i n (mark d)) ≡ 1
unfolding mark
here i zero d a b = absurd (omega arith)
here i (suc n) d a b = go (eqb d i) refl (here (suc i) n d)
  where
    go : (x : Bool) → eqb d i ≡ x → (suc i ≤ d → d < suc i + n → sum (table_from (suc i) n (mark d)) ≡ 1) → cond (eqb d i) 1 0 + sum (table_from (suc i) n (mark d)) ≡ 1
    go true e r = rw (e, not-here (suc i) n d (omega (arith, eqb-true d i e)))
    go false e r = let u : suc i ≤ d = omega (arith, eqb-false d i e) in rw (e, r u (omega arith))

pub sum_one : (n d : ℕ) → d < n → (b : Bool) → sum (table n (λ w. cond (b && eqb d w) 1 0)) ≡ cond b 1 0
unfolding mark
sum_one n d h true = here 0 n d (omega arith) (omega arith)
sum_one n d h false = sum-none 0 n

-- ---- from a place on: the element there, and the rest
pub sum_drop : (l : List ℕ) (i : ℕ) → i < length l → sum (drop i l) ≡ get_or l i 0 + sum (drop (i + 1) l)
sum_drop l i h = rw (add-one i) (ap sum (drop-cons l i 0 h))

pub sum-end : (l : List ℕ) (i : ℕ) → length l ≤ i → sum (drop i l) ≡ 0
sum-end l i h = ap sum (drop_of_length-le l h)

-- no element is above the sum
pub le-sum : (l : List ℕ) (i : ℕ) → get_or l i 0 ≤ sum l
le-sum [] i = omega arith
le-sum (x ∷ l) zero = omega arith
le-sum (x ∷ l) (suc i) = omega (arith, le-sum l i)

-- an element that grows takes the sum along
pub sum-set : (l : List ℕ) (i n : ℕ) → i < length l → sum (set l i (get_or l i 0 + n)) ≡ sum l + n
sum-set [] i n h = absurd (omega arith)
sum-set (x ∷ l) zero n h = omega arith
sum-set (x ∷ l) (suc i) n h = omega (arith, sum-set l i n (le_of_suc-le-suc h))

-- each of n elements that grows by m
pub sum-each : (i n m : ℕ) (f : ℕ → ℕ) → sum (table_from i n (λ w. f w + m)) ≡ sum (table_from i n f) + n * m
sum-each i zero m f = omega arith
sum-each i (suc n) m f = omega (arith, sum-each (suc i) n m f, suc-mul n m)

-- the first n elements add up to no more than all
pub sum_first : (n : ℕ) (l : List ℕ) → sum (table n (λ w. get_or l w 0)) ≤ sum l
sum_first zero l = omega arith
sum_first (suc n) [] = omega (arith, sum-none 0 (suc n))
sum_first (suc n) (x ∷ l) = omega (arith, ap sum (shift-table 0 n (λ w. get_or (x ∷ l) w 0)), sum_first n l)
