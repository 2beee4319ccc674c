-- How long texts can be.
use Prim.Native.Nat.{ℕ, zero, suc, ◌+◌, ◌/◌, ◌%◌, ◌^◌, ◌<◌, ◌≤◌}
use mathlib.Core.Path.{◌≡◌, refl}
use mathlib.Core.Bool.{Bool, true, false, cond}
use mathlib.Core.List.{List, [], ◌∷◌}
use native.Mathlib.Omega.{arith}
use lib.Dec.{ltb}
use borrow.Author.Tests.{ltb-true, ltb-false}
use lib.IntN.{ℤ, pos, negsuc, nat_abs}
use lib.ListN.{length, length-append, length-replicate}
use lib.Seq.{take_all}
use Rattle.days.specs.Ticks.{second}
use Rattle.calendar.specs.Fields.{fields_of}
use Rattle.page.specs.Characters.{zero_digit}
use Rattle.page.specs.Pages.{extended, left_text}
use Rattle.page.specs.Numbers.{digits_of, places_within, places, decimal_text, right_text}
use Rattle.page.specs.Times.{year_text, date_text, hour_text, fraction_text, clock_text, time_shown}
use Rattle.page.proofs.NumberLaws.{few, more, places_is}

-- a text that fits a page is not cut
pub not-cut : (t : List ℕ) → length t ≤ 1024 → extended [] t ≡ t
unfolding extended
not-cut t h = take_all 1024 t h

-- ---- numbers
pub length_digits : (k n : ℕ) → length (digits_of k n) ≡ k
unfolding digits_of
length_digits zero n = refl
length_digits (suc k) n = omega (arith, length-append (digits_of k (n / 10)) ((zero_digit + n % 10) ∷ []), length_digits k (n / 10))

either-most : (b : Bool) {x y m : ℕ} → x ≤ m → y ≤ m → cond b x y ≤ m
either-most true h k = h
either-most false h k = k

within_by : (k n : ℕ) (b : Bool) → ltb n 10 ≡ b → places_within k (n / 10) ≤ k → places_within (suc k) n ≤ suc k
within_by k n true e h = omega (arith, few k n (ltb-true n 10 e))
within_by k n false e h = omega (arith, more k n (ltb-false n 10 e))

within-most : (k n : ℕ) → places_within k n ≤ k
unfolding places_within
within-most zero n = omega arith
within-most (suc k) n = within_by k n (ltb n 10) refl (within-most k (n / 10))

pub places-most : (n : ℕ) → n < 10 ^ 20 → places n ≤ 20
places-most n h = rw (places_is n h) (within-most 20 n)

pub decimal-most : (n : ℕ) → n < 10 ^ 20 → length (decimal_text n) ≤ 20
unfolding decimal_text
decimal-most n h = omega (arith, length_digits (places n) n, places-most n h)

-- ---- columns
pub left-most : (w : ℕ) (t : List ℕ) → length (left_text w t) ≤ w + length t
unfolding left_text
left-most w t = simp (length-append, length-replicate) (omega arith)

pub right-most : (w n : ℕ) → n < 10 ^ 20 → length (right_text w n) ≤ w + 20
unfolding right_text
right-most w n h = simp (length-append, length-replicate) (omega (arith, decimal-most n h))

-- ---- times
year-most : (y : ℕ) → length (year_text y) ≤ 5
unfolding year_text
year-most y = rw (length_digits (cond (ltb 9999 y) 5 4) y) (either-most (ltb 9999 y) (omega arith) (omega arith))

date-most : (y m d : ℕ) → length (date_text y m d) ≤ 11
unfolding date_text
date-most y m d = simp (length-append, length_digits) (omega (arith, year-most y))

hour-long : (h m s : ℕ) → length (hour_text h m s) ≡ 8
unfolding hour_text
hour-long h m s = simp (length-append, length_digits)

fraction-most : (n : ℕ) → length (fraction_text n) ≤ 8
unfolding fraction_text
fraction-most zero = omega arith
fraction-most (suc n) = omega (arith, length_digits 7 (suc n))

pub clock-most : (n : ℕ) → length (clock_text n) ≤ 28
unfolding clock_text
clock-most n =
    let f = fields_of n in
    simp (length-append, hour-long)
    (omega (arith, date-most (nat_abs f.year) (nat_abs f.month) (nat_abs f.day), fraction-most (n % second)))

pub time-most : (t : ℤ) → length (time_shown t) ≤ 29
unfolding time_shown
time-most (pos n) = simp length-append (omega (arith, clock-most n))
time-most (negsuc n) = omega arith
