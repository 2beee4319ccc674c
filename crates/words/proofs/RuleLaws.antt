-- How long the words of a rule can be: those of a rule that passes its checks fit a page, so that nothing of them is cut.
use Prim.Native.Nat.{ℕ, zero, suc, ◌+◌, ◌≤◌, ◌<◌}
use Prim.Native.String.{String}
use mathlib.Core.Path.{◌≡◌, refl}
use mathlib.Core.Bool.{Bool, true, false, cond, ◌&&◌}
use mathlib.Core.List.{List, [], ◌∷◌, ◌++◌}
use native.Mathlib.Omega.{arith}
use lib.Dec.{leb, eqb}
use lib.IntN.{ℤ, pos, negsuc}
use lib.ListN.{length, length-append, get_or}
use borrow.Author.Tests.{leb-true, ltb-true}
use Rattle.refusal.specs.Outcome.{answered}
use Rattle.refusal.proofs.OutcomeLaws.{require-answered, last-require}
use Rattle.refusal.proofs.Tests.{both}
use Rattle.ascii.specs.Text.{ascii}
use Rattle.page.specs.Numbers.{digits_of}
use Rattle.page.proofs.LengthLaws.{length_digits, decimal-most}
use Rattle.zone.specs.declared.dates.SystemTime.{SystemTime}
use Rattle.zone.specs.declared.rules.Rule.{Rule}
use Rattle.zone.specs.Biases.{in_bias_range}
use Rattle.zone.specs.Dates.{is_set, date_ok}
use Rattle.zone.specs.Rules.{dates_match, biases_ok, check_dates, standard_sum, daylight_sum}
use Rattle.words.specs.Names.{weekdays, weekday_name, months, month_name, occurrences, occurrence_name}
use Rattle.words.specs.Signed.{signed_text}
use Rattle.words.specs.Rules.{bias_text, yearly_text, day_text, when_text, seconds_text, switch_text, half_text, biases_text, head_text, rule_text}

-- ---- names
abbrev short : ℕ → List String → Bool
short k [] = true
short k (s ∷ l) = leb (length (ascii s)) k && short k l

name-most : (k : ℕ) (l : List String) (d : String) (n : ℕ) → short k l ≡ true → length (ascii d) ≤ k → length (ascii (get_or l n d)) ≤ k
name-most k [] d n h e = e
name-most k (s ∷ l) d zero h e = leb-true (length (ascii s)) k (both (leb (length (ascii s)) k) (short k l) h).0
name-most k (s ∷ l) d (suc n) h e = name-most k l d n (both (leb (length (ascii s)) k) (short k l) h).1 e

weekday-most : (w : ℕ) → length (ascii (weekday_name w)) ≤ 9
unfolding weekday_name
weekday-most w = name-most 9 weekdays "Saturday" w refl (omega arith)

month-most : (m : ℕ) → length (ascii (month_name m)) ≤ 9
unfolding month_name
month-most m = name-most 9 months "December" m refl (omega arith)

occurrence-most : (k : ℕ) → length (ascii (occurrence_name k)) ≤ 6
unfolding occurrence_name
occurrence-most k = name-most 6 occurrences "last" k refl (omega arith)

-- ---- parts of a rule
either-most : (b : Bool) (x y : List ℕ) (m : ℕ) → length x ≤ m → length y ≤ m → length (cond b x y) ≤ m
either-most true x y m h k = h
either-most false x y m h k = k

signed-most : (z : ℤ) → in_bias_range z ≡ true → length (signed_text z) ≤ 21
unfolding signed_text
signed-most (pos n) h =
    let l = leb-true n 1440 h in
    omega (arith, decimal-most n (omega arith))
signed-most (negsuc n) h =
    let l = ltb-true n 1440 h in
    simp length-append (omega (arith, decimal-most (suc n) (omega arith)))

bias-most : (z : ℤ) → in_bias_range z ≡ true → length (bias_text z) ≤ 47
unfolding bias_text
bias-most z h = simp length-append (omega (arith, signed-most z h))

yearly-most : (d : SystemTime) → length (yearly_text d) ≤ 33
unfolding yearly_text
yearly-most d = simp length-append (omega (arith, occurrence-most d.day, weekday-most d.weekday, month-most d.month))

day-most : (d : SystemTime) → length (day_text d) ≤ 33
unfolding day_text
day-most d = simp (length-append, length_digits) (omega arith)

when-most : (d : SystemTime) → length (when_text d) ≤ 33
unfolding when_text
when-most d = either-most (eqb d.year 0) (yearly_text d) (day_text d) 33 (yearly-most d) (day-most d)

seconds-most : (s ms : ℕ) → length (seconds_text s ms) ≤ 7
unfolding seconds_text
seconds-most s ms =
    either-most (eqb s 0 && eqb ms 0) [] (ascii ":" ++ digits_of 2 s ++ ascii "." ++ digits_of 3 ms) 7 (omega arith)
    (simp (length-append, length_digits) (omega arith))

switch-most : (d : SystemTime) → length (switch_text d) ≤ 53
unfolding switch_text
switch-most d = simp (length-append, length_digits) (omega (arith, when-most d, seconds-most d.second d.millisecond))

half-most : (title : List ℕ) (z : ℤ) (d : SystemTime) → in_bias_range z ≡ true → length (half_text title z d) ≤ length title + 101
unfolding half_text
half-most title z d h = simp length-append (omega (arith, bias-most z h, switch-most d))

head-most : (r : Rule) → r.year < 65536 → length (head_text r) ≤ 60
unfolding head_text
head-most r h =
    simp length-append
    (omega (arith, decimal-most r.year (omega arith), either-most r.active (ascii ", active\n") (ascii "\n") 9 (omega arith) (omega arith)))

biases-most : (r : Rule) → biases_ok r ≡ true → length (biases_text r) ≤ 236
unfolding biases_text biases_ok
biases-most r h = go (is_set r.standard_date) h
  where
    go : (b : Bool) → cond b (in_bias_range (standard_sum r) && in_bias_range (daylight_sum r)) (in_bias_range r.bias) ≡ true
        → length (cond b (half_text (ascii "  standard time: ") (standard_sum r) r.standard_date ++ half_text (ascii "  daylight time: ") (daylight_sum r) r.daylight_date) (ascii "  all year: " ++ bias_text r.bias ++ ascii "\n")) ≤ 236
    go true e =
        let (s, d) = both (in_bias_range (standard_sum r)) (in_bias_range (daylight_sum r)) e in
        simp length-append
        (omega (arith, half-most (ascii "  standard time: ") (standard_sum r) r.standard_date s, half-most (ascii "  daylight time: ") (daylight_sum r) r.daylight_date d))
    go false e = simp length-append (omega (arith, bias-most r.bias e))

-- ---- the rule
passes-biases : (r : Rule) → check_dates r ≡ answered tt → biases_ok r ≡ true
unfolding check_dates
passes-biases r e =
    let a = require-answered (date_ok r.standard_date) 10 _ tt e in
    let b = require-answered (date_ok r.daylight_date) 10 _ tt a.1 in
    let c = require-answered (dates_match r.standard_date r.daylight_date) 11 _ tt b.1 in
    last-require (biases_ok r) 9 c.1

pub rule_fits : (r : Rule) → r.year < 65536 → check_dates r ≡ answered tt → length (rule_text r) ≤ 1024
unfolding rule_text
rule_fits r y e = simp length-append (omega (arith, head-most r y, biases-most r (passes-biases r e)))
