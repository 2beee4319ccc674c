-- A page is filled from the front, and text put on it piece by piece is all of it put at once.
use Prim.Native.Nat.{ℕ, zero, suc, ◌+◌, ◌-◌, ◌≤◌, min}
use mathlib.Core.Path.{◌≡◌, refl, sym, ap, ◌∙◌}
use mathlib.Core.Bool.{Bool, true, false}
use mathlib.Core.List.{List, [], ◌∷◌, ◌++◌, append_assoc, append-nil}
use native.Mathlib.Omega.{arith}
use native.Mathlib.Numerals.{unary_clauses}
use native.Mathlib.Nat.{suc-min-suc, min-eq_left, min-eq_right}
use lib.Dec.{leb}
use lib.ListN.{length, take, replicate, length-append, length-take, length-replicate, replicate-append-replicate}
use lib.Seq.{take_all, length-take-le, take-append-le, take-append-add, paste, take-paste}
use borrow.Author.Tests.{leb-true, leb-false}
use Rattle.page.specs.declared.Page.{Page}
use Rattle.page.specs.Pages.{text_of, extended}

-- ---- pieces
cut_twice : (n : ℕ) (a b : List ℕ) → take n (take n a ++ b) ≡ take n (a ++ b)
cut_twice zero a b = refl
cut_twice (suc n) [] b = refl
cut_twice (suc n) (x ∷ a) b = ap (λ (l : List ℕ). x ∷ l) (cut_twice n a b)

-- a text put in two pieces is the whole of it put at once
pub both : (p x y : List ℕ) {a b : List ℕ} → a ≡ extended p x → b ≡ extended a y → b ≡ extended p (x ++ y)
unfolding extended
both p x y {a} {b} e f = f ∙ ap (λ (l : List ℕ). take 1024 (l ++ y)) e ∙ cut_twice 1024 (p ++ x) y ∙ ap (take 1024) (append_assoc p x y)

-- ---- one piece
-- nothing put on a page leaves it as it is
pub nothing : (p : Page) → length p.bytes ≡ 1024 → extended (text_of p) [] ≡ text_of p
unfolding extended text_of
nothing p full =
    let most : length (take p.len p.bytes) ≤ 1024 = omega (arith, length-take p.len p.bytes) in
    ap (take 1024) (append-nil (take p.len p.bytes)) ∙ take_all 1024 (take p.len p.bytes) most

take_min : (n : ℕ) (l : List ℕ) → take (min n (length l)) l ≡ take n l
take_min zero l = simp unary_clauses
take_min (suc n) [] = simp unary_clauses
take_min (suc n) (x ∷ l) = rw (suc-min-suc n (length l)) (ap (λ (r : List ℕ). x ∷ r) (take_min n l))

-- as many of a page's bytes as its text is long are the text
pub text-front : (p : Page) → take (length (text_of p)) p.bytes ≡ text_of p
unfolding text_of
text-front p = ap (λ (k : ℕ). take k p.bytes) (length-take p.len p.bytes) ∙ take_min p.len p.bytes

-- as many bytes of s as have room are copied behind the first len bytes of d
pub record Room (len : ℕ) (s : List ℕ) (at count : ℕ) : Type 0 where
  pub start : at ≡ min len 1024
  pub size : count ≡ min (1024 - at) (length s)

pub copied_behind : (d : List ℕ) → length d ≡ 1024 → (len : ℕ) (s : List ℕ) (at count : ℕ) → Room len s at count
    → take (at + count) (paste d at s count) ≡ extended (take len d) s
unfolding extended
copied_behind d full len s at count r =
    let front : take at d ≡ take len d = rw (r.start, ← full) (take_min len d) in
    let l : length (take at d) ≡ at = length-take-le at d (omega (arith, r.start)) in
    let whole : 1024 ≡ length (take at d) + (1024 - at) = omega (arith, r.start) in
    take-paste d at s count (omega (arith, r.start)) (omega (arith, r.size))
    ∙ ap (λ (x : List ℕ). take at d ++ x) (ap (λ (k : ℕ). take k s) r.size ∙ take_min (1024 - at) s)
    ∙ sym (take-append-add (take at d) s (1024 - at))
    ∙ ap (λ (k : ℕ). take k (take at d ++ s)) (sym whole)
    ∙ ap (λ (x : List ℕ). take 1024 (x ++ s)) front

-- ---- many blanks
take-replicate : (m n x : ℕ) → m ≤ n → take m (replicate n x) ≡ replicate m x
take-replicate zero n x h = refl
take-replicate (suc m) zero x h = absurd (omega arith)
take-replicate (suc m) (suc n) x h = ap (λ (l : List ℕ). x ∷ l) (take-replicate m n x (omega arith))

-- more than fill the page make no difference
filled : (p : List ℕ) (n x : ℕ) (b : Bool) → leb n 1024 ≡ b → extended p (replicate (min n 1024) x) ≡ extended p (replicate n x)
unfolding extended
filled p n x true e = ap (λ (k : ℕ). take 1024 (p ++ replicate k x)) (min-eq_left (leb-true n 1024 e))
filled p n x false e =
    let h : 1024 ≤ n = omega (arith, leb-false n 1024 e) in
    let s : 1024 + (n - 1024) ≡ n = omega arith in
    let most : 1024 ≤ length (p ++ replicate 1024 x) = omega (arith, length-append p (replicate 1024 x), length-replicate 1024 x) in
    ap (λ (k : ℕ). take 1024 (p ++ replicate k x)) (min-eq_right h)
    ∙ sym (take-append-le 1024 (p ++ replicate 1024 x) (replicate (n - 1024) x) most)
    ∙ ap (take 1024) (append_assoc p (replicate 1024 x) (replicate (n - 1024) x) ∙ ap (λ (l : List ℕ). p ++ l) (replicate-append-replicate 1024 (n - 1024) x ∙ ap (λ (k : ℕ). replicate k x) s))

pub blanks : (p : List ℕ) (n x : ℕ) → extended p (take (min n 1024) (replicate 1024 x)) ≡ extended p (replicate n x)
blanks p n x = ap (extended p) (take-replicate (min n 1024) 1024 x (omega arith)) ∙ filled p n x (leb n 1024) refl
