-- Laws of counts: by a key, over a run that comes after all that was counted, and how many there can be.
use Prim.Native.Nat.{ℕ, zero, suc, ◌+◌, ◌-◌, ◌≤◌, ◌<◌}
use mathlib.Core.Path.{◌≡◌, sym, ap, ap₂, ◌∙◌}
use mathlib.Core.Bool.{Bool, true, false, cond, ◌&&◌}
use native.Mathlib.Omega.{arith}
use lib.Dec.{eqb}
use lib.ListN.{length}
use Rattle.days.specs.Counting.{up_from, keep, count_among}
use Rattle.days.proofs.Counting.{length-keep, count-split, count_none, count_same}
use Rattle.totals.specs.Totals.{sum, table}
use Rattle.totals.proofs.TableLaws.{sum-none, sum-add, sum_one, same-table}

-- ---- how many there can be

keep-few : (p : ℕ → Bool) (a n : ℕ) → length (keep p (up_from a n)) ≤ n
unfolding keep up_from
keep-few p a zero = omega arith
keep-few p a (suc n) = omega (arith, length-keep p a (up_from (suc a) n), bit-few (p a), keep-few p (suc a) n)
  where
    bit-few : (b : Bool) → cond b 1 0 ≤ 1
    bit-few true = omega arith
    bit-few false = omega arith

pub count-few : (p : ℕ → Bool) (a b : ℕ) → count_among p a b ≤ b - a
count-few p a b = keep-few p a (b - a)

-- a test that nothing passes from a on counts no more numbers than lie before a
pub most : (q : ℕ → Bool) (s a e : ℕ) → s ≤ a → a ≤ e → ((t : ℕ) → a ≤ t → q t ≡ false) → count_among q s e ≤ a - s
most q s a e sa ae off = omega (arith, count-split q s a e sa ae, count_none q a e (λ t h l. off t h), count-few q s a)

-- ---- q passes nothing from a on; p passes what q does before a, what r does from a to before b, and nothing from b on
pub grow : (p q r : ℕ → Bool) (s a b e : ℕ) → s ≤ a → a ≤ b → b ≤ e
    → ((t : ℕ) → t < a → p t ≡ q t) → ((t : ℕ) → a ≤ t → q t ≡ false)
    → ((t : ℕ) → a ≤ t → t < b → p t ≡ r t) → ((t : ℕ) → b ≤ t → p t ≡ false)
    → count_among p s e ≡ count_among q s e + count_among r a b
grow p q r s a b e sa ab be low off mid high =
    let ae : a ≤ e = omega arith in
    let ps = count-split p s a e sa ae in
    let pe = count-split p a b e ab be in
    let qs = count-split q s a e sa ae in
    let p1 = count_same p q s a (λ t h l. low t l) in
    let p2 = count_same p r a b mid in
    let p3 = count_none p b e (λ t h l. high t h) in
    let q2 = count_none q a e (λ t h l. off t h) in
    omega (arith, ps, pe, qs, p1, p2, p3, q2)

-- ---- the counts by a key below n add up to the whole count
module _ (n : ℕ) (key : ℕ → ℕ) (h : (t : ℕ) → key t < n) (p : ℕ → Bool) where
  keep-parts : (a m : ℕ) → sum (table n (λ w. length (keep (λ t. p t && eqb (key t) w) (up_from a m)))) ≡ length (keep p (up_from a m))
  unfolding keep up_from
  keep-parts a zero = sum-none 0 n
  keep-parts a (suc m) =
      ap sum (same-table 0 n
      (λ w. length (keep (λ t. p t && eqb (key t) w) (up_from a (suc m))))
      (λ w. cond (p a && eqb (key a) w) 1 0 + length (keep (λ t. p t && eqb (key t) w) (up_from (suc a) m)))
      (λ w i j. length-keep (λ t. p t && eqb (key t) w) a (up_from (suc a) m)))
      ∙ sum-add 0 n (λ w. cond (p a && eqb (key a) w) 1 0) (λ w. length (keep (λ t. p t && eqb (key t) w) (up_from (suc a) m)))
      ∙ ap₂ ◌+◌ (sum_one n (key a) (h a) (p a)) (keep-parts (suc a) m)
      ∙ sym (length-keep p a (up_from (suc a) m))

  pub parts : (a b : ℕ) → sum (table n (λ w. count_among (λ t. p t && eqb (key t) w) a b)) ≡ count_among p a b
  parts a b = keep-parts a (b - a)
