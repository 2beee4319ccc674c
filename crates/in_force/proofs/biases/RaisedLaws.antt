-- A bias of the range, raised to a number, and added to ticks and taken from them.
use Rattle.std.proofs.Common.{◌≡◌, ℕ, suc, ◌+◌, ◌-◌, ◌*◌, ◌<◌, ◌≤◌, true, ◌&&◌, ltb, leb, ℤ, pos, negsuc, ◌+ℤ◌, ap, arith, w32, SFits, ltb-true, le-ltb, lt-ltb, le-leb, leb-true}
use Rattle.days.specs.Ticks.{minute, day}
use Rattle.zone.specs.Biases.{in_bias_range}
use Rattle.in_force.specs.Biases.{plus_bias, less_bias}
use Rattle.in_force.specs.Steps.{raised_bias}

-- a bias in range, raised
pub raised_is : (x : ℤ) → in_bias_range x ≡ true → x +ℤ pos 1440 ≡ pos (raised_bias x)
raised_is (pos n) f = ap pos (omega arith)
raised_is (negsuc n) f =
    let h : n < 1440 = ltb-true n 1440 f in
    rw (le-ltb 1440 (suc n) (omega arith)) (ap pos (omega arith))

pub raised-small : (x : ℤ) → in_bias_range x ≡ true → raised_bias x ≤ 2880
raised-small (pos n) f = omega (arith, leb-true n 1440 f)
raised-small (negsuc n) f = omega arith

pub bias-fits : (x : ℤ) → in_bias_range x ≡ true → SFits w32 x
bias-fits (pos n) f = record { sfits = omega (arith, leb-true n 1440 f) }
bias-fits (negsuc n) f = record { sfits = omega (arith, ltb-true n 1440 f) }

-- for every tick, cut off at 0 alike
pub plus-raised : (t : ℕ) (x : ℤ) → in_bias_range x ≡ true → t + raised_bias x * 600000000 - 864000000000 ≡ plus_bias t x
plus-raised t (pos n) f = omega arith
plus-raised t (negsuc n) f = let h : n < 1440 = ltb-true n 1440 f in omega arith

pub less-raised : (t : ℕ) (x : ℤ) → in_bias_range x ≡ true → t + 864000000000 - raised_bias x * 600000000 ≡ less_bias t x
less-raised t (pos n) f = omega arith
less-raised t (negsuc n) f = let h : n < 1440 = ltb-true n 1440 f in omega arith

-- ---- a tick from the second day on shows a local tick exactly where it is that tick plus the bias
pub to-utc : (z l : ℕ) (b : ℤ) → in_bias_range b ≡ true → 864000000000 ≤ z → less_bias z b ≡ l → z ≡ plus_bias l b
to-utc z l (pos n) f h e = let g : n ≤ 1440 = leb-true n 1440 f in omega arith
to-utc z l (negsuc n) f h e = let g : n < 1440 = ltb-true n 1440 f in omega arith

pub to-local : (z l : ℕ) (b : ℤ) → in_bias_range b ≡ true → 864000000000 ≤ z → z ≡ plus_bias l b → less_bias z b ≡ l
to-local z l (pos n) f h e = let g : n ≤ 1440 = leb-true n 1440 f in omega arith
to-local z l (negsuc n) f h e = let g : n < 1440 = ltb-true n 1440 f in omega arith

-- at most a day away
pub near : (u l : ℕ) (b : ℤ) → in_bias_range b ≡ true → less_bias u b ≡ l → (l - 864000000000 ≤ u) × (u ≤ l + 864000000000)
near u l (pos n) f e = let g : n ≤ 1440 = leb-true n 1440 f in omega arith
near u l (negsuc n) f e = let g : n < 1440 = ltb-true n 1440 f in omega arith

pub inside : (l a b : ℕ) (z : ℤ) → in_bias_range z ≡ true → a ≤ l - day → l + day < b → (leb a (plus_bias l z) && ltb (plus_bias l z) b) ≡ true
inside l a b (pos n) f low high =
    let g : n ≤ 1440 = leb-true n 1440 f in
    rw (le-leb a (l + n * minute) (omega arith), lt-ltb (l + n * minute) b (omega arith))
inside l a b (negsuc n) f low high =
    let g : n < 1440 = ltb-true n 1440 f in
    rw (le-leb a (l - suc n * minute) (omega arith), lt-ltb (l - suc n * minute) b (omega arith))
