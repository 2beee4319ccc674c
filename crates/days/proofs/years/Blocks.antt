-- The whole blocks of years before a day lead to its year.
use Prim.Native.Nat.{ℕ, min, ◌+◌, ◌-◌, ◌*◌, ◌/◌, ◌%◌, ◌≤◌, ◌<◌}
use mathlib.Core.Path.{◌≡◌, ◌∙◌, refl, sym, subst}
use mathlib.Core.Bool.{Bool, true, false, cond, not, ◌||◌}
use native.Mathlib.Omega.{arith}
use lib.Dec.{eqb, ltb}
use borrow.Author.Tests.{eqb-true, ltb-true, ltb-false, eq-eqb}
use Rattle.days.specs.Years.{leap, days_in_year, days_of_years, day_of_year, year_day}
use Rattle.days.specs.declared.years.YearBlocks.{YearBlocks}
use Rattle.days.specs.Steps.{blocks_of, after_blocks}
use Rattle.days.proofs.years.Closed.{closed, years-closed, year-long}
use Rattle.days.proofs.years.YearOf.{year-found}

-- n days are a blocks of 400 years, b of 100, c of 4, d single years, and r days of the year that follows
pub record Blocks (n a b c d r : ℕ) : Type 0 where
  pub whole : n ≡ 146097 * a + 36524 * b + 1461 * c + 365 * d + r
  pub b3 : b ≤ 3
  pub c24 : c ≤ 24
  pub d3 : d ≤ 3
  pub r365 : r ≤ 365
  pub leap_d : 365 ≤ r → d ≡ 3
  pub leap_b : 365 ≤ r → c ≡ 24 → b ≡ 3

-- the days of blocks of 400, 100, 4 and 1 years
pub in400 : days_of_years 400 ≡ 146097
in400 = rw years-closed (unfold closed in refl)

in100 : days_of_years 100 ≡ 36524
in100 = rw years-closed (unfold closed in refl)

in4 : days_of_years 4 ≡ 1461
in4 = rw years-closed (unfold closed in refl)

in1 : days_of_years 1 ≡ 365
in1 = rw years-closed (unfold closed in refl)

-- the definition in these numbers, as the code has them
pub blocks-are : (n b d : ℕ) → b ≡ min (n % 146097 / 36524) 3 → d ≡ min ((n % 146097 - b * 36524) % 1461 / 365) 3
    → ◌≡◌ {A = YearBlocks} (record { by_400 = n / 146097; by_100 = b; by_4 = (n % 146097 - b * 36524) / 1461; by_1 = d; rest = (n % 146097 - b * 36524) % 1461 - d * 365 }) (blocks_of n)
unfolding blocks_of
blocks-are n b d eb ed = rw (ed, eb, in400, in100, in4, in1)

-- stage by stage, each over numbers of its own: b of s, then c and u of what is left, then d of u
blocks_from : (n a s b t c u d : ℕ) → n ≡ 146097 * a + s → s < 146097 → b ≡ min (s / 36524) 3 → t ≡ s - b * 36524 → c ≡ t / 1461 → u ≡ t % 1461 → d ≡ min (u / 365) 3
    → Blocks n a b c d (u - d * 365)
blocks_from n a s b t c u d en hs eb et ec eu ed =
    record { whole = omega arith; b3 = omega arith; c24 = omega arith; d3 = omega arith; r365 = omega arith; leap_d = λ h. omega arith; leap_b = λ h g. omega arith }

abbrev AreBlocks : ℕ → YearBlocks → Type 0
AreBlocks n k = Blocks n k.by_400 k.by_100 k.by_4 k.by_1 k.rest

pub are-blocks : (n : ℕ) (k : YearBlocks) → k ≡ blocks_of n → AreBlocks n k
are-blocks n k e =
    subst (AreBlocks n) (blocks-are n _ _ refl refl ∙ sym e)
    (blocks_from n (n / 146097) (n % 146097) _ _ _ _ _ (omega arith) (omega arith) refl refl refl refl refl)

module _ (a b c d : ℕ) (hb : b ≤ 3) (hc : c ≤ 24) (hd : d ≤ 3) where
  by4 : (400 * a + 100 * b + 4 * c + d) / 4 ≡ 100 * a + 25 * b + c
  by4 = omega arith

  by100 : (400 * a + 100 * b + 4 * c + d) / 100 ≡ 4 * a + b
  by100 = omega arith

  by400 : (400 * a + 100 * b + 4 * c + d) / 400 ≡ a
  by400 = omega arith

sum-up : (a b c d k x y z : ℕ) → k ≡ 400 * a + 100 * b + 4 * c + d → x ≡ 100 * a + 25 * b + c → y ≡ 4 * a + b → z ≡ a
    → 365 * k + x - y + z ≡ 146097 * a + 36524 * b + 1461 * c + 365 * d
sum-up a b c d k x y z e f g h = omega arith

-- the days before the year that the blocks give
before-block : (n a b c d r : ℕ) → Blocks n a b c d r → n ≡ days_of_years (400 * a + 100 * b + 4 * c + d) + r
before-block n a b c d r h =
    let k : ℕ = 400 * a + 100 * b + 4 * c + d in
    let e : closed k ≡ 146097 * a + 36524 * b + 1461 * c + 365 * d =
    unfold closed in sum-up a b c d k (k / 4) (k / 100) (k / 400) refl (by4 a b c d h.b3 h.c24 h.d3) (by100 a b c d h.b3 h.c24 h.d3) (by400 a b c d h.b3 h.c24 h.d3) in
    omega (arith, years-closed k, e, h.whole)

leap-yes : (y : ℕ) → y % 4 ≡ 0 → (y % 100 ≡ 0 → y % 400 ≡ 0) → days_in_year y ≡ 366
unfolding days_in_year leap
leap-yes y h g = rw (eq-eqb _ _ h) (go (eqb (y % 100) 0) refl)
  where
    go : (q : Bool) → eqb (y % 100) 0 ≡ q → ◌≡◌ {A = ℕ} (cond (not (eqb (y % 100) 0) || eqb (y % 400) 0) 366 365) 366
    go true e = rw (e, eq-eqb _ _ (g (eqb-true _ _ e)))
    go false e = rw e

four : (a b c d : ℕ) → d ≡ 3 → (1601 + (400 * a + 100 * b + 4 * c + d)) % 4 ≡ 0
four a b c d h = omega arith

-- in a century's first 24 blocks of four years no century ends; in its last one it does
no-century : (a b c d : ℕ) → d ≡ 3 → c ≤ 23 → (1601 + (400 * a + 100 * b + 4 * c + d)) % 100 ≡ 4 * c + 4
no-century a b c d h g = omega arith

a-400th : (a b c d : ℕ) → d ≡ 3 → c ≡ 24 → b ≡ 3 → (1601 + (400 * a + 100 * b + 4 * c + d)) % 400 ≡ 0
a-400th a b c d h g f = omega arith

last-leap : (a b c d : ℕ) → c ≤ 24 → d ≡ 3 → (c ≡ 24 → b ≡ 3) → days_in_year (1601 + (400 * a + 100 * b + 4 * c + d)) ≡ 366
last-leap a b c d hc hd hb = leap-yes _ (four a b c d hd) (go (ltb c 24) refl)
  where
    go : (t : Bool) → ltb c 24 ≡ t → (1601 + (400 * a + 100 * b + 4 * c + d)) % 100 ≡ 0 → (1601 + (400 * a + 100 * b + 4 * c + d)) % 400 ≡ 0
    go true e h = let g : c < 24 = ltb-true _ _ e in let f = no-century a b c d hd (omega arith) in absurd (omega arith)
    go false e h = let g : 24 ≤ c = ltb-false _ _ e in let f : c ≡ 24 = omega arith in a-400th a b c d hd f (hb f)

block-fits : (n a b c d r : ℕ) → Blocks n a b c d r → r < days_in_year (1601 + (400 * a + 100 * b + 4 * c + d))
block-fits n a b c d r h = go (ltb r 365) refl
  where
    go : (t : Bool) → ltb r 365 ≡ t → r < days_in_year (1601 + (400 * a + 100 * b + 4 * c + d))
    go true e = let g : r < 365 = ltb-true _ _ e in omega (arith, year-long (1601 + (400 * a + 100 * b + 4 * c + d)))
    go false e =
        let g : 365 ≤ r = ltb-false _ _ e in
        let q = last-leap a b c d h.c24 (h.leap_d g) (h.leap_b g) in
        omega (arith, q, h.r365)

block-day : (n a b c d r : ℕ) → Blocks n a b c d r → day_of_year (1601 + (400 * a + 100 * b + 4 * c + d)) r ≡ year_day n
block-day n a b c d r h = year-found n (400 * a + 100 * b + 4 * c + d) r (before-block n a b c d r h) (block-fits n a b c d r h)

-- the year and the day that the blocks lead to are those of the walk
pub blocks-lead : (n : ℕ) (k : YearBlocks) → k ≡ blocks_of n → after_blocks k ≡ year_day n
blocks-lead n k e = block-day n _ _ _ _ _ (are-blocks n k e)
