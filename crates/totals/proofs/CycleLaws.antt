-- Whole weeks, over the unit and the number of units (a day seven times, an hour 168 times): every value of the key comes for one unit in each cycle.
use Prim.Native.Nat.{ℕ, zero, suc, ◌+◌, ◌*◌, ◌/◌, ◌%◌, ◌≤◌, ◌<◌}
use mathlib.Core.Path.{◌≡◌, refl, sym, ap, ◌∙◌}
use mathlib.Core.Bool.{Bool, true, false}
use mathlib.Core.List.{List}
use native.Mathlib.Numerals.{add-one}
use native.Mathlib.Nat.{zero-add, add-zero, add_assoc, suc-mul, zero-mul, add-mul, add-mod_right, add-mul-div_right, div-eq_of_lt-le, mod-eq_of_lt}
use native.Mathlib.Omega.{arith}
use lib.ListN.{get_or}
use lib.Dec.{eqb}
use borrow.Author.Tests.{eq-eqb, ne_eqb}
use Rattle.days.specs.Counting.{count_among}
use Rattle.days.proofs.Counting.{count-split, count_none, count-all}
use Rattle.totals.specs.Totals.{table, count_with, grown}
use Rattle.totals.proofs.TableLaws.{same-table}
use Rattle.totals.proofs.GrownLaws.{count-along}

-- ---- a test that comes again after N numbers passes as many of any N in a row
module _ (p : ℕ → Bool) (N : ℕ) (again : (t : ℕ) → p (t + N) ≡ p t) where
  next : (a : ℕ) → count_among p (suc a) (suc a + N) ≡ count_among p a (a + N)
  next a =
      let f = count-split p a (suc a) (suc a + N) (omega arith) (omega arith) in
      let g = count-split p a (a + N) (suc a + N) (omega arith) (omega arith) in
      let e : count_among p a (a + 1) ≡ count_among p (a + N) (a + N + 1) = count-along p p a (a + N) 1 one in
      let x : count_among p a (a + 1) ≡ count_among p a (suc a) = ap (λ m. count_among p a m) (add-one a) in
      let y : count_among p (a + N) (a + N + 1) ≡ count_among p (a + N) (suc a + N) = ap (λ m. count_among p (a + N) m) (omega arith) in
      omega (arith, f, g, e, x, y)
    where
      one : (i : ℕ) → i < 1 → p (a + i) ≡ p (a + N + i)
      one i l = let z : i ≡ 0 = omega arith in rw (z, add-zero, add-zero) (sym (again a))

  pub any-cycle : (a : ℕ) → count_among p a (a + N) ≡ count_among p 0 N
  any-cycle zero = ap (λ m. count_among p 0 m) (zero-add N)
  any-cycle (suc a) = next a ∙ any-cycle a

-- ---- a test of the unit that a number is in
module _ (p q : ℕ → Bool) (unit : ℕ) (by : (t : ℕ) → p t ≡ q (t / unit)) where
  in-unit : (m t : ℕ) → m * unit ≤ t → t < m * unit + unit → p t ≡ q m
  in-unit m t l u = by t ∙ ap q (div-eq_of_lt-le unit l (rw (add-one, suc-mul) (omega arith)))

  one_unit : (m : ℕ) → count_among p (m * unit) (m * unit + unit) ≡ count_among q m (suc m) * unit
  one_unit m = go (q m) refl
    where
      alone : (t : ℕ) → m ≤ t → t < suc m → q t ≡ q m
      alone t l u = ap q (omega arith)

      go : (b : Bool) → q m ≡ b → count_among p (m * unit) (m * unit + unit) ≡ count_among q m (suc m) * unit
      go true e =
          let x = count-all p (m * unit) (m * unit + unit) (λ t l u. in-unit m t l u ∙ e) in
          let y : count_among q m (suc m) ≡ 1 = count-all q m (suc m) (λ t l u. alone t l u ∙ e) ∙ omega arith in
          rw y (x ∙ omega arith)
      go false e =
          let y : count_among q m (suc m) ≡ 0 = count_none q m (suc m) (λ t l u. alone t l u ∙ e) in
          rw y (count_none p (m * unit) (m * unit + unit) (λ t l u. in-unit m t l u ∙ e) ∙ sym (zero-mul unit))

  pub units : (m : ℕ) → count_among p 0 (m * unit) ≡ count_among q 0 m * unit
  units zero = rw zero-mul (count_none p 0 0 (λ t l u. absurd (omega arith)) ∙ sym (ap (λ z. z * unit) (count_none q 0 0 (λ t l u. absurd (omega arith))) ∙ zero-mul unit))
  units (suc m) =
      ap (λ z. count_among p 0 z) (suc-mul m unit) ∙ count-split p 0 (m * unit) (m * unit + unit) (omega arith) (omega arith)
      ∙ ap (λ z. z + count_among p (m * unit) (m * unit + unit)) (units m) ∙ ap (λ z. count_among q 0 m * unit + z) (one_unit m)
      ∙ sym (add-mul (count_among q 0 m) (count_among q m (suc m)) unit) ∙ ap (λ z. z * unit) (sym (count-split q 0 m (suc m) (omega arith) (omega arith)))

-- ---- a key that counts units round and round, from some value on
module _ (n unit start : ℕ) (some-values : 0 < n) (some-unit : 0 < unit) where
  abbrev pub cyclic : ℕ → ℕ
  cyclic t = (t / unit + start) % n

  one-of-n : (v : ℕ) → v < n → count_among (λ j. eqb (j % n) v) 0 n ≡ 1
  one-of-n v h =
      let f = count-split (λ j. eqb (j % n) v) 0 v n (omega arith) (omega arith) in
      let g = count-split (λ j. eqb (j % n) v) v (suc v) n (omega arith) h in
      let low = count_none (λ j. eqb (j % n) v) 0 v (λ t l u. other t (omega arith) (λ e. omega arith)) in
      let high = count_none (λ j. eqb (j % n) v) (suc v) n (λ t l u. other t u (λ e. omega arith)) in
      let here = count-all (λ j. eqb (j % n) v) v (suc v) (λ t l u. eq-eqb (t % n) v (mod-eq_of_lt (omega arith) ∙ omega arith)) in
      omega (arith, f, g, low, high, here)
    where
      other : (t : ℕ) → t < n → (t ≡ v → ⊥) → eqb (t % n) v ≡ false
      other t l k = ne_eqb (t % n) v (λ e. k (sym (mod-eq_of_lt l) ∙ e))

  one-of-values : (v : ℕ) → v < n → count_among (λ j. eqb ((j + start) % n) v) 0 n ≡ 1
  one-of-values v h =
      ap (λ m. count_among (λ j. eqb ((j + start) % n) v) 0 m) (sym (zero-add n))
      ∙ count-along (λ j. eqb ((j + start) % n) v) (λ j. eqb (j % n) v) 0 start n (λ i l. ap (λ m. eqb (m % n) v) (omega arith))
      ∙ any-cycle (λ j. eqb (j % n) v) n (λ t. ap (λ m. eqb m v) (add-mod_right t n)) start
      ∙ one-of-n v h

  -- after n units the key comes again
  again : (v t : ℕ) → eqb (cyclic (t + n * unit)) v ≡ eqb (cyclic t) v
  again v t =
      let e : (t + n * unit) / unit ≡ t / unit + n = add-mul-div_right t n some-unit in
      let f : t / unit + n + start ≡ t / unit + start + n = omega arith in
      ap (λ m. eqb ((m + start) % n) v) e ∙ ap (λ m. eqb (m % n) v) f ∙ ap (λ m. eqb m v) (add-mod_right (t / unit + start) n)

  one-cycle : (v a : ℕ) → v < n → count_with cyclic v a (a + n * unit) ≡ unit
  one-cycle v a h =
      any-cycle (λ t. eqb (cyclic t) v) (n * unit) (again v) a
      ∙ units (λ t. eqb (cyclic t) v) (λ j. eqb ((j + start) % n) v) unit (λ t. refl) n
      ∙ ap (λ z. z * unit) (one-of-values v h) ∙ omega arith

  -- k cycles
  pub cycles : (k v a : ℕ) → v < n → count_with cyclic v a (a + k * (n * unit)) ≡ k * unit
  cycles zero v a h = rw (zero-mul, zero-mul, add-zero) (count_none (λ t. eqb (cyclic t) v) a a (λ t l u. absurd (omega arith)))
  cycles (suc k) v a h =
      let e : a + suc k * (n * unit) ≡ (a + k * (n * unit)) + n * unit = ap (λ z. a + z) (suc-mul k (n * unit)) ∙ sym (add_assoc a (k * (n * unit)) (n * unit)) in
      ap (λ m. count_with cyclic v a m) e ∙ count-split (λ t. eqb (cyclic t) v) a (a + k * (n * unit)) ((a + k * (n * unit)) + n * unit) (omega arith) (omega arith)
      ∙ ap (λ z. z + count_with cyclic v (a + k * (n * unit)) ((a + k * (n * unit)) + n * unit)) (cycles k v a h)
      ∙ ap (λ z. k * unit + z) (one-cycle v (a + k * (n * unit)) h) ∙ sym (suc-mul k unit)

  -- so each total grows by a unit for each of them
  pub grown-cycles : (totals : List ℕ) (a k : ℕ) → grown n cyclic totals a (a + k * (n * unit)) ≡ table n (λ v. get_or totals v 0 + k * unit)
  unfolding grown
  grown-cycles totals a k =
      same-table 0 n (λ v. get_or totals v 0 + count_with cyclic v a (a + k * (n * unit))) (λ v. get_or totals v 0 + k * unit) (λ v i j. ap (λ z. get_or totals v 0 + z) (cycles k v a (omega arith)))
