-- Laws of the numbers from a to before b that pass a test.
use Prim.Native.Nat.{ℕ, zero, suc, ◌+◌, ◌-◌, ◌≤◌, ◌<◌}
use mathlib.Core.Path.{◌≡◌, refl, sym, ◌∙◌, ap}
use mathlib.Core.Bool.{Bool, true, false, cond, ◌&&◌}
use mathlib.Core.Logic.{◌⊎◌, inl, inr, ⊎_elim}
use mathlib.Core.List.{List, [], ◌∷◌, ◌++◌}
use native.Mathlib.Numerals.{one-add}
use native.Mathlib.Omega.{arith}
use native.Mathlib.Nat.{suc-add, add-suc, zero-add, add-zero}
use lib.ListN.{length, length-append}
use lib.Dec.{leb, ltb, eqb}
use borrow.Author.Tests.{leb-true, leb-false, ltb-true, ltb-false, le-leb, lt-leb, lt-ltb, le-ltb, eqb-true, eqb-false}
use Rattle.days.specs.Counting.{up_from, keep, among, count_among, Rises, In}

pub length-upFrom : (a n : ℕ) → length (up_from a n) ≡ n
unfolding up_from
length-upFrom a zero = refl
length-upFrom a (suc n) = ap suc (length-upFrom (suc a) n)

pub up_from-append : (a m n : ℕ) → up_from a (m + n) ≡ up_from a m ++ up_from (a + m) n
unfolding up_from
up_from-append a zero n = rw (zero-add, add-zero)
up_from-append a (suc m) n = rw (suc-add, add-suc, ← suc-add) (ap {B = List ℕ} (λ l. a ∷ l) (up_from-append (suc a) m n))

module _ (p : ℕ → Bool) where
  pub keep_append : (l r : List ℕ) → keep p (l ++ r) ≡ keep p l ++ keep p r
  unfolding keep
  keep_append [] r = refl
  keep_append (x ∷ l) r = go (p x) refl (keep_append l r)
    where
      go : (b : Bool) → p x ≡ b → keep p (l ++ r) ≡ keep p l ++ keep p r → keep p (x ∷ (l ++ r)) ≡ keep p (x ∷ l) ++ keep p r
      go true e ih = rw (keep, e) (ap {B = List ℕ} (λ q. x ∷ q) ih)
      go false e ih = rw (keep, e) ih

  pub keep-none : (a n : ℕ) → ((x : ℕ) → a ≤ x → x < a + n → p x ≡ false) → keep p (up_from a n) ≡ []
  unfolding keep up_from
  keep-none a zero h = refl
  keep-none a (suc n) h = rw (h a (omega arith) (omega arith)) (keep-none (suc a) n (λ x l u. h x (omega arith) (omega arith)))

  pub keep_all : (a n : ℕ) → ((x : ℕ) → a ≤ x → x < a + n → p x ≡ true) → keep p (up_from a n) ≡ up_from a n
  unfolding keep up_from
  keep_all a zero h = refl
  keep_all a (suc n) h = rw (h a (omega arith) (omega arith)) (ap {B = List ℕ} (λ l. a ∷ l) (keep_all (suc a) n (λ x l u. h x (omega arith) (omega arith))))

  pub among-split : (a b c : ℕ) → a ≤ b → b ≤ c → among p a c ≡ among p a b ++ among p b c
  among-split a b c ab bc =
      let e : c - a ≡ (b - a) + (c - b) = omega arith in
      let f : a + (b - a) ≡ b = omega arith in
      ap (λ n. keep p (up_from a n)) e ∙ ap (keep p) (up_from-append a (b - a) (c - b)) ∙ keep_append (up_from a (b - a)) (up_from (a + (b - a)) (c - b))
      ∙ ap (λ n. keep p (up_from a (b - a)) ++ keep p (up_from n (c - b))) f

  pub among_none : (a b : ℕ) → ((x : ℕ) → a ≤ x → x < b → p x ≡ false) → among p a b ≡ []
  among_none a b h = keep-none a (b - a) (λ x l u. h x l (omega arith))

  pub count-all : (a b : ℕ) → ((x : ℕ) → a ≤ x → x < b → p x ≡ true) → count_among p a b ≡ b - a
  count-all a b h = ap length (keep_all a (b - a) (λ x l u. h x l (omega arith))) ∙ length-upFrom a (b - a)

  pub among_one : (a : ℕ) → p a ≡ true → among p a (suc a) ≡ a ∷ []
  unfolding keep up_from
  among_one a h = ap (λ n. keep p (up_from a n)) one ∙ rw h
    where
      one : suc a - a ≡ 1
      one = omega arith

  pub length-keep : (x : ℕ) (l : List ℕ) → length (keep p (x ∷ l)) ≡ cond (p x) 1 0 + length (keep p l)
  unfolding keep
  length-keep x l = go (p x) refl
    where
      go : (b : Bool) → p x ≡ b → length (keep p (x ∷ l)) ≡ cond b 1 0 + length (keep p l)
      go true e = rw (keep, e) (sym (one-add (length (keep p l))))
      go false e = rw (keep, e) (sym (zero-add (length (keep p l))))

  pub count-split : (a b c : ℕ) → a ≤ b → b ≤ c → count_among p a c ≡ count_among p a b + count_among p b c
  count-split a b c ab bc = ap length (among-split a b c ab bc) ∙ length-append (among p a b) (among p b c)

  pub count_none : (a b : ℕ) → ((x : ℕ) → a ≤ x → x < b → p x ≡ false) → count_among p a b ≡ 0
  count_none a b h = ap length (among_none a b h)

module _ (p q : ℕ → Bool) where
  keep_same : (a n : ℕ) → ((x : ℕ) → a ≤ x → x < a + n → p x ≡ q x) → length (keep p (up_from a n)) ≡ length (keep q (up_from a n))
  unfolding up_from keep
  keep_same a zero h = refl
  keep_same a (suc n) h =
      length-keep p a (up_from (suc a) n)
      ∙ ap (λ b. cond b 1 0 + length (keep p (up_from (suc a) n))) (h a (omega arith) (omega arith))
      ∙ ap (λ m. cond (q a) 1 0 + m) (keep_same (suc a) n (λ x l u. h x (omega arith) (omega arith)))
      ∙ sym (length-keep q a (up_from (suc a) n))

  pub count_same : (a b : ℕ) → ((x : ℕ) → a ≤ x → x < b → p x ≡ q x) → count_among p a b ≡ count_among q a b
  count_same a b h = keep_same a (b - a) (λ x l u. h x l (omega arith))

  keep-alike : (a n : ℕ) → ((x : ℕ) → a ≤ x → x < a + n → p x ≡ q x) → keep p (up_from a n) ≡ keep q (up_from a n)
  unfolding up_from keep
  keep-alike a zero h = refl
  keep-alike a (suc n) h = go (q a) refl (keep-alike (suc a) n (λ x l u. h x (omega arith) (omega arith)))
    where
      go : (b : Bool) → q a ≡ b → keep p (up_from (suc a) n) ≡ keep q (up_from (suc a) n) → keep p (a ∷ up_from (suc a) n) ≡ keep q (a ∷ up_from (suc a) n)
      go true e ih = rw (keep, h a (omega arith) (omega arith), e) (ap {B = List ℕ} (λ l. a ∷ l) ih)
      go false e ih = rw (keep, h a (omega arith) (omega arith), e) ih

  -- two tests that agree from a to before b pick the same numbers
  pub among_same : (a b : ℕ) → ((x : ℕ) → a ≤ x → x < b → p x ≡ q x) → among p a b ≡ among q a b
  among_same a b h = keep-alike a (b - a) (λ x l u. h x l (omega arith))

-- a list of u alone, where u is from a to before b and passes the test
abbrev pub pick : (ℕ → Bool) → ℕ → ℕ → ℕ → List ℕ
pick p a b u = cond (leb a u && (ltb u b && p u)) (u ∷ []) []

pub not-true : (b : Bool) → (b ≡ true → ⊥) → b ≡ false
not-true true h = absurd (h refl)
not-true false h = refl

pub append-none : (l : List ℕ) → l ++ [] ≡ l
append-none [] = refl
append-none (x ∷ l) = ap {B = List ℕ} (λ q. x ∷ q) (append-none l)

module _ (p : ℕ → Bool) where
  pub pick-below : (a b u : ℕ) → u < a → pick p a b u ≡ []
  pick-below a b u h = rw (lt-leb a u h)

  pub pick-above : (a b u : ℕ) → b ≤ u → pick p a b u ≡ []
  pick-above a b u h = rw (le-ltb u b h) (go (leb a u))
    where
      go : (c : Bool) → cond (c && false) (u ∷ []) [] ≡ []
      go true = refl
      go false = refl

  -- where only u can pass the test
  pub among-only : (a b u : ℕ) → ((x : ℕ) → a ≤ x → x < b → p x ≡ true → x ≡ u) → among p a b ≡ pick p a b u
  among-only a b u h = go (leb a u) (ltb u b) refl refl
    where
      none-but : (c d : ℕ) → a ≤ c → d ≤ b → ((x : ℕ) → c ≤ x → x < d → x ≡ u → ⊥) → among p c d ≡ []
      none-but c d ac db f = among_none p c d (λ x l m. not-true (p x) (λ e. f x l m (h x (omega arith) (omega arith) e)))

      at : (c : Bool) → p u ≡ c → among p u (suc u) ≡ cond c (u ∷ []) []
      at true e = among_one p u e
      at false e = among_none p u (suc u) (λ x l m. let g : x ≡ u = omega arith in ap p g ∙ e)

      go : (c d : Bool) → leb a u ≡ c → ltb u b ≡ d → among p a b ≡ cond (leb a u && (ltb u b && p u)) (u ∷ []) []
      go false d e f = let g : u < a = leb-false a u e in rw e (none-but a b (omega arith) (omega arith) (λ x l m q. omega arith))
      go true false e f = let g : b ≤ u = ltb-false u b f in rw (e, f) (none-but a b (omega arith) (omega arith) (λ x l m q. omega arith))
      go true true e f =
          let g : a ≤ u = leb-true a u e in
          let k : u < b = ltb-true u b f in
          rw (e, f)
          (among-split p a u b g (omega arith)
          ∙ ap (λ l. l ++ among p u b) (none-but a u (omega arith) (omega arith) (λ x l m q. omega arith))
          ∙ among-split p u (suc u) b (omega arith) (omega arith)
          ∙ ap (λ l. among p u (suc u) ++ l) (none-but (suc u) b (omega arith) (omega arith) (λ x l m q. omega arith))
          ∙ append-none (among p u (suc u))
          ∙ at (p u) refl)

  -- where only u and a later v can
  pub among-only-two : (a b u v : ℕ) → u < v → ((x : ℕ) → a ≤ x → x < b → p x ≡ true → (x ≡ u) ⊎ (x ≡ v)) → among p a b ≡ pick p a b u ++ pick p a b v
  among-only-two a b u v uv h = go (leb a v) (ltb v b) refl refl
    where
      first : (c : ℕ) → c ≤ v → c ≤ b → among p a c ≡ pick p a c u
      first c k m = among-only a c u (λ x l n e. ⊎_elim (λ q. q) (λ q. absurd (omega arith)) (h x l (omega arith) e))

      go : (c d : Bool) → leb a v ≡ c → ltb v b ≡ d → among p a b ≡ pick p a b u ++ pick p a b v
      go false d e f =
          let g : v < a = leb-false a v e in
          among_none p a b (λ x l m. not-true (p x) (λ t. ⊎_elim (λ q. omega arith) (λ q. omega arith) (h x l m t)))
          ∙ sym (ap (λ l. l ++ pick p a b v) (pick-below a b u (omega arith)) ∙ pick-below a b v g)
      go true false e f =
          let g : b ≤ v = ltb-false v b f in
          first b g (omega arith) ∙ sym (append-none (pick p a b u)) ∙ ap (λ l. pick p a b u ++ l) (sym (pick-above a b v g))
      go true true e f =
          let g : a ≤ v = leb-true a v e in
          let k : v < b = ltb-true v b f in
          among-split p a v b g (omega arith)
          ∙ ap (λ l. l ++ among p v b) (first v (omega arith) (omega arith) ∙ ap (λ t. cond (leb a u && (t && p u)) (u ∷ []) []) (lt-ltb u v uv ∙ sym (lt-ltb u b (omega arith))))
          ∙ ap (λ l. pick p a b u ++ l)
          (among-only v b v (λ x l m t. ⊎_elim (λ q. absurd (omega arith)) (λ q. q) (h x (omega arith) m t))
          ∙ ap (λ t. cond (t && (ltb v b && p v)) (v ∷ []) []) (le-leb v v (omega arith) ∙ sym e))

  pick-short : (a b u : ℕ) → length (pick p a b u) ≤ 1
  pick-short a b u = go (leb a u && (ltb u b && p u))
    where
      go : (c : Bool) → length (cond c (u ∷ []) []) ≤ 1
      go true = omega arith
      go false = omega arith

  -- where only u and v can, in whatever order, at most two do
  pub count-two : (a b u v : ℕ) → ((x : ℕ) → a ≤ x → x < b → p x ≡ true → (x ≡ u) ⊎ (x ≡ v)) → count_among p a b ≤ 2
  count-two a b u v h = go (ltb u v) (ltb v u) refl refl
    where
      rising : (w z : ℕ) → w < z → ((x : ℕ) → a ≤ x → x < b → p x ≡ true → (x ≡ w) ⊎ (x ≡ z)) → count_among p a b ≤ 2
      rising w z wz k = rw (among-only-two a b w z wz k, length-append) (omega (arith, pick-short a b w, pick-short a b z))

      go : (c d : Bool) → ltb u v ≡ c → ltb v u ≡ d → count_among p a b ≤ 2
      go true d e f = rising u v (ltb-true u v e) h
      go false true e f = rising v u (ltb-true v u f) (λ x l m t. ⊎_elim inr inl (h x l m t))
      go false false e f =
          let g : v ≤ u = ltb-false u v e in
          let k : u ≤ v = ltb-false v u f in
          rw (among-only a b u (λ x l m t. ⊎_elim (λ q. q) (λ q. omega arith) (h x l m t))) (omega (arith, pick-short a b u))

module _ (p : ℕ → Bool) where
  and-true : (x : Bool) → (x && true) ≡ x
  and-true true = refl
  and-true false = refl

  and-false : (x : Bool) → (x && false) ≡ false
  and-false true = refl
  and-false false = refl

  -- those below b, and those from b on
  pub among-cut : (a c b : ℕ) → a ≤ c → among p a c ≡ among (λ u. p u && ltb u b) a c ++ among (λ u. p u && leb b u) a c
  among-cut a c b ac = go (leb a b) (leb b c) refl refl
    where
      low : (d e : ℕ) → e ≤ b → among (λ u. p u && ltb u b) d e ≡ among p d e
      low d e h = among_same (λ u. p u && ltb u b) p d e (λ u l m. ap (λ t. p u && t) (lt-ltb u b (omega arith)) ∙ and-true (p u))

      low-none : (d e : ℕ) → b ≤ d → among (λ u. p u && ltb u b) d e ≡ []
      low-none d e h = among_none (λ u. p u && ltb u b) d e (λ u l m. ap (λ t. p u && t) (le-ltb u b (omega arith)) ∙ and-false (p u))

      high : (d e : ℕ) → b ≤ d → among (λ u. p u && leb b u) d e ≡ among p d e
      high d e h = among_same (λ u. p u && leb b u) p d e (λ u l m. ap (λ t. p u && t) (le-leb b u (omega arith)) ∙ and-true (p u))

      high-none : (d e : ℕ) → e ≤ b → among (λ u. p u && leb b u) d e ≡ []
      high-none d e h = among_none (λ u. p u && leb b u) d e (λ u l m. ap (λ t. p u && t) (lt-leb b u (omega arith)) ∙ and-false (p u))

      go : (x y : Bool) → leb a b ≡ x → leb b c ≡ y → among p a c ≡ among (λ u. p u && ltb u b) a c ++ among (λ u. p u && leb b u) a c
      go false y e f =
          let g : b < a = leb-false a b e in
          sym (ap (λ l. l ++ among (λ u. p u && leb b u) a c) (low-none a c (omega arith)) ∙ high a c (omega arith))
      go true false e f =
          let g : c < b = leb-false b c f in
          sym (ap (λ l. among (λ u. p u && ltb u b) a c ++ l) (high-none a c (omega arith)) ∙ append-none _ ∙ low a c (omega arith))
      go true true e f =
          let g : a ≤ b = leb-true a b e in
          let h : b ≤ c = leb-true b c f in
          among-split p a b c g h
          ∙ sym (ap (λ l. l ++ among (λ u. p u && leb b u) a c)
          (among-split (λ u. p u && ltb u b) a b c g h ∙ ap (λ l. among (λ u. p u && ltb u b) a b ++ l) (low-none b c (omega arith)) ∙ append-none _ ∙ low a b (omega arith))
          ∙ ap (λ l. among p a b ++ l)
          (among-split (λ u. p u && leb b u) a b c g h ∙ ap (λ l. l ++ among (λ u. p u && leb b u) b c) (high-none a b (omega arith)) ∙ high b c (omega arith)))

-- ---- in rising order, all that pass the test, and no others
module _ (p : ℕ → Bool) where
  keep-first : (x : ℕ) (l : List ℕ) → p x ≡ true → keep p (x ∷ l) ≡ x ∷ keep p l
  unfolding keep
  keep-first x l e = rw (keep, e)

  keep-rest : (x : ℕ) (l : List ℕ) → p x ≡ false → keep p (x ∷ l) ≡ keep p l
  unfolding keep
  keep-rest x l e = rw (keep, e)

  rises-on : (x a : ℕ) (l : List ℕ) → x < a → Rises (x ∷ keep p l) → Rises (a ∷ keep p l) → Rises (x ∷ keep p (a ∷ l))
  rises-on x a l h i j = go (p a) refl
    where
      go : (b : Bool) → p a ≡ b → Rises (x ∷ keep p (a ∷ l))
      go true e = rw (keep-first a l e) (h, j)
      go false e = rw (keep-rest a l e) i

  rises-after : (x a n : ℕ) → x < a → Rises (x ∷ keep p (up_from a n))
  unfolding keep up_from
  rises-after x a zero h = tt
  rises-after x a (suc n) h = rises-on x a (up_from (suc a) n) h (rises-after x (suc a) n (omega arith)) (rises-after a (suc a) n (omega arith))

  rises-from : (a : ℕ) (l : List ℕ) → Rises (a ∷ keep p l) → Rises (keep p l) → Rises (keep p (a ∷ l))
  rises-from a l h i = go (p a) refl
    where
      go : (b : Bool) → p a ≡ b → Rises (keep p (a ∷ l))
      go true e = rw (keep-first a l e) h
      go false e = rw (keep-rest a l e) i

  keep-rises : (a n : ℕ) → Rises (keep p (up_from a n))
  unfolding keep up_from
  keep-rises a zero = tt
  keep-rises a (suc n) = rises-from a (up_from (suc a) n) (rises-after a (suc a) n (omega arith)) (keep-rises (suc a) n)

  -- they rise
  pub among-rises : (a b : ℕ) → Rises (among p a b)
  among-rises a b = keep-rises a (b - a)

  in-later : (u a : ℕ) (l : List ℕ) → In u (keep p l) → In u (keep p (a ∷ l))
  in-later u a l m = go (p a) refl
    where
      go : (b : Bool) → p a ≡ b → In u (keep p (a ∷ l))
      go true e = rw (keep-first a l e) (inr m)
      go false e = rw (keep-rest a l e) m

  keep-in : (u a n : ℕ) → a ≤ u → u < a + n → p u ≡ true → In u (keep p (up_from a n))
  unfolding up_from
  keep-in u a zero h k t = absurd (omega arith)
  keep-in u a (suc n) h k t = go (eqb u a) refl (λ g. keep-in u (suc a) n g (omega arith) t)
    where
      go : (c : Bool) → eqb u a ≡ c → (a < u → In u (keep p (up_from (suc a) n))) → In u (keep p (a ∷ up_from (suc a) n))
      go true e m = let q : u ≡ a = eqb-true u a e in rw (keep-first a (up_from (suc a) n) (ap p (sym q) ∙ t)) (inl q)
      go false e m = let g : u ≡ a → ⊥ = eqb-false u a e in in-later u a (up_from (suc a) n) (m (omega arith))

  -- a number from a to before b that passes is one of them
  pub among_in : (a b u : ℕ) → a ≤ u → u < b → p u ≡ true → In u (among p a b)
  among_in a b u h k t = keep-in u a (b - a) h (omega arith) t

  first-or-later : (u a : ℕ) (l : List ℕ) → In u (keep p (a ∷ l)) → ((u ≡ a) × (p u ≡ true)) ⊎ In u (keep p l)
  first-or-later u a l m = go (p a) refl
    where
      go : (b : Bool) → p a ≡ b → ((u ≡ a) × (p u ≡ true)) ⊎ In u (keep p l)
      go true e = ⊎_elim (λ q. inl (q, ap p q ∙ e)) inr (rw (keep-first a l e) at m)
      go false e = inr (rw (keep-rest a l e) at m)

  in-keep : (u a n : ℕ) → In u (keep p (up_from a n)) → (a ≤ u) × (u < a + n) × (p u ≡ true)
  unfolding keep up_from
  in-keep u a zero m = absurd m
  in-keep u a (suc n) m =
      ⊎_elim (λ q. (omega arith, omega arith, q.1)) (λ k. let h = in-keep u (suc a) n k in (omega arith, omega arith, h.2))
      (first-or-later u a (up_from (suc a) n) m)

  -- each of them is from a to before b, and passes
  pub in-among : (a b u : ℕ) → In u (among p a b) → (a ≤ u) × (u < b) × (p u ≡ true)
  in-among a b u m = let h = in-keep u a (b - a) m in (h.0, omega arith, h.2)
