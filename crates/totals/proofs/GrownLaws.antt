-- Totals grown by ticks: in two parts, along another key, and over a stretch of one value.
use Prim.Native.Nat.{ℕ, zero, suc, ◌+◌, ◌-◌, ◌≤◌, ◌<◌}
use mathlib.Core.Path.{◌≡◌, refl, sym, ap, ◌∙◌}
use mathlib.Core.Bool.{Bool, true, cond}
use mathlib.Core.List.{List}
use native.Mathlib.Nat.{suc-add, add-zero, add-suc}
use native.Mathlib.Omega.{arith}
use lib.ListN.{length, get_or, set}
use lib.Dec.{eqb}
use borrow.Author.Tests.{eq-eqb, ne_eqb}
use Rattle.days.specs.Counting.{up_from, keep, count_among}
use Rattle.days.proofs.Counting.{length-keep, count-split, count_none, count-all}
use Rattle.totals.specs.Totals.{table, sum, count_with, grown}
use Rattle.totals.proofs.TableLaws.{length-table, same-table, table_is, get_or-table, set-table, sum-add}
use Rattle.totals.proofs.CountLaws.{parts}

-- ---- counting along another stretch, number by number
module _ (p q : ℕ → Bool) where
  keep-along : (a b n : ℕ) → ((i : ℕ) → i < n → p (a + i) ≡ q (b + i)) → length (keep p (up_from a n)) ≡ length (keep q (up_from b n))
  unfolding keep up_from
  keep-along a b zero h = refl
  keep-along a b (suc n) h =
      length-keep p a (up_from (suc a) n)
      ∙ ap (λ m. cond (p a) 1 0 + m) (keep-along (suc a) (suc b) n (λ i l. rw (suc-add, ← add-suc, suc-add, ← add-suc) (h (suc i) (omega arith))))
      ∙ ap (λ t. cond t 1 0 + length (keep q (up_from (suc b) n))) (rw (add-zero, add-zero) at (h 0 (omega arith)))
      ∙ sym (length-keep q b (up_from (suc b) n))

  pub count-along : (a b n : ℕ) → ((i : ℕ) → i < n → p (a + i) ≡ q (b + i)) → count_among p a (a + n) ≡ count_among q b (b + n)
  count-along a b n h =
      let e : (a + n) - a ≡ n = omega arith in
      let f : (b + n) - b ≡ n = omega arith in
      ap (λ m. length (keep p (up_from a m))) e ∙ keep-along a b n h ∙ ap (λ m. length (keep q (up_from b m))) (sym f)

module _ (n : ℕ) (key : ℕ → ℕ) where
  pub length-grown : (totals : List ℕ) (a b : ℕ) → length (grown n key totals a b) ≡ n
  unfolding grown
  length-grown totals a b = length-table 0 n _

  -- no ticks
  pub grown-none : (totals : List ℕ) (a : ℕ) → length totals ≡ n → grown n key totals a a ≡ totals
  unfolding grown
  grown-none totals a h =
      same-table 0 n (λ v. get_or totals v 0 + count_with key v a a) (λ v. get_or totals v 0) (λ v i j. ap (λ m. get_or totals v 0 + m) (count_none (λ t. eqb (key t) v) a a (λ t k l. absurd (omega arith))) ∙ omega arith)
      ∙ sym (table_is n totals h)

  -- in two parts
  pub grown-on : (totals : List ℕ) (a b c : ℕ) → a ≤ b → b ≤ c → grown n key (grown n key totals a b) b c ≡ grown n key totals a c
  unfolding grown
  grown-on totals a b c ab bc =
      same-table 0 n (λ v. get_or (table n (λ w. get_or totals w 0 + count_with key w a b)) v 0 + count_with key v b c) (λ v. get_or totals v 0 + count_with key v a c)
      (λ v i j. omega (arith, get_or-table n (λ w. get_or totals w 0 + count_with key w a b) v (omega arith), count-split (λ t. eqb (key t) v) a b c ab bc))

  -- all with one value
  pub grown-one : (totals : List ℕ) (a b d : ℕ) → length totals ≡ n → d < n → a ≤ b → ((t : ℕ) → a ≤ t → t < b → key t ≡ d) → grown n key totals a b ≡ set totals d (get_or totals d 0 + (b - a))
  unfolding grown
  grown-one totals a b d len h ab one =
      sym (ap (λ (z : ℕ). set totals d (get_or totals d 0 + z)) (sym here) ∙ ap (λ (l : List ℕ). set l d (get_or totals d 0 + count_with key d a b)) (table_is n totals len)
      ∙ set-table n (λ v. get_or totals v 0) (λ v. get_or totals v 0 + count_with key v a b) d h (λ v k. omega (arith, else v k)))
    where
      here : count_with key d a b ≡ b - a
      here = count-all (λ t. eqb (key t) d) a b (λ t i j. eq-eqb (key t) d (one t i j))

      else : (v : ℕ) → (v ≡ d → ⊥) → count_with key v a b ≡ 0
      else v k = count_none (λ t. eqb (key t) v) a b (λ t i j. ne_eqb (key t) v (λ e. k (sym e ∙ one t i j)))

  -- the same ticks under another key, from another number on
  pub grown-along : (other : ℕ → ℕ) (totals : List ℕ) (a b m : ℕ) → ((i : ℕ) → i < m → key (a + i) ≡ other (b + i)) → grown n key totals a (a + m) ≡ grown n other totals b (b + m)
  unfolding grown
  grown-along other totals a b m h =
      same-table 0 n (λ v. get_or totals v 0 + count_with key v a (a + m)) (λ v. get_or totals v 0 + count_with other v b (b + m))
      (λ v i j. ap (λ z. get_or totals v 0 + z) (count-along (λ t. eqb (key t) v) (λ t. eqb (other t) v) a b m (λ k l. ap (λ z. eqb z v) (h k l))))

  -- each tick is in one total, where the key stays below n
  pub sum-grown : ((t : ℕ) → key t < n) → (totals : List ℕ) (a b : ℕ) → length totals ≡ n → sum (grown n key totals a b) ≡ sum totals + (b - a)
  unfolding grown
  sum-grown below totals a b h =
      sum-add 0 n (λ v. get_or totals v 0) (λ v. count_with key v a b)
      ∙ ap (λ (l : List ℕ). sum l + sum (table n (λ v. count_with key v a b))) (sym (table_is n totals h))
      ∙ ap (λ m. sum totals + m) (parts n key below (λ t. true) a b ∙ count-all (λ t. true) a b (λ t k l. refl))
