-- What holds of every number that an outcome may be refused with: step by step along a chain of checks.
use Prim.Native.Nat.{ℕ}
use mathlib.Core.Bool.{Bool, true, false, cond, ◌||◌}
use mathlib.Core.List.{List, [], ◌∷◌}
use lib.Dec.{T, eqb}
use Rattle.refusal.specs.Outcome.{Outcome, refused, answered, require, ◌>>=◌, ◌>>◌}

-- a number of a list
abbrev pub one_of : List ℕ → ℕ → Bool
one_of [] n = false
one_of (m ∷ ms) n = eqb n m || one_of ms n

abbrev pub OneOf : List ℕ → ℕ → Type 0
OneOf ms n = T (one_of ms n)

abbrev pub Gives : {A : Type 0} → (ℕ → Type 0) → Outcome A → Type 0
Gives P (refused n) = P n
Gives P (answered a) = Unit {0}

module _ (P : ℕ → Type 0) where
  pub gives-bind : {A B : Type 0} (o : Outcome A) (f : A → Outcome B) → Gives P o → ((a : A) → Gives P (f a)) → Gives P (o >>= f)
  gives-bind (refused n) f k g = k
  gives-bind (answered a) f k g = g a

  pub gives_then : {A B : Type 0} (o : Outcome A) (q : Outcome B) → Gives P o → Gives P q → Gives P (o >> q)
  gives_then (refused n) q k l = k
  gives_then (answered a) q k l = l

  pub gives-test : {B : Type 0} (t : Bool) (n : ℕ) (q : Outcome B) → P n → Gives P q → Gives P (require t n >> q)
  gives-test true n q p k = k
  gives-test false n q p k = p

  pub gives-last : (t : Bool) (n : ℕ) → P n → Gives P (require t n)
  gives-last true n p = tt
  gives-last false n p = p

  pub gives-cond : {A : Type 0} (b : Bool) (o q : Outcome A) → Gives P o → Gives P q → Gives P (cond b o q)
  gives-cond true o q k l = k
  gives-cond false o q k l = l

-- what holds of more numbers
pub gives_more : {A : Type 0} (P Q : ℕ → Type 0) (o : Outcome A) → ((n : ℕ) → P n → Q n) → Gives P o → Gives Q o
gives_more P Q (refused n) h k = h n k
gives_more P Q (answered a) h k = tt

pub one_more : (m : ℕ) (ms : List ℕ) (n : ℕ) → OneOf ms n → OneOf (m ∷ ms) n
one_more m ms n h = go (eqb n m)
  where
    go : (b : Bool) → T (b || one_of ms n)
    go true = tt
    go false = h
