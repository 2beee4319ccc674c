-- What the calls answer, from what a walk over the whole definition gives.
use Prim.Native.Nat.{ℕ, ◌+◌, ◌-◌, ◌*◌}
use mathlib.Core.Path.{◌≡◌, refl, sym, ◌∙◌, ap}
use mathlib.Core.Bool.{Bool, true, false, not, ◌&&◌, ◌||◌}
use mathlib.Core.List.{List, []}
use native.Mathlib.Omega.{arith}
use lib.ListN.{length}
use lib.Dec.{eqb}
use Rattle.std.specs.Prelude.{None, Result, Ok, Err}
use Rattle.std.specs.Result.{is_err}
use Rattle.refusal.specs.declared.Refusal.{Refusal}
use Rattle.refusal.specs.Results.{outcome_of}
use Rattle.refusal.specs.Outcome.{Outcome, refused, answered, require, ◌>>=◌, ◌>>◌}
use Rattle.refusal.specs.Lent.{written}
use Rattle.little_endian.specs.Fields.{part}
use Rattle.rows.specs.Row.{active_rules}
use Rattle.definition.specs.declared.walk.Walk.{Walk}
use Rattle.definition.specs.declared.header.Header.{Header}
use Rattle.definition.specs.Definition.{Kept, Definition, read_rules, read_header, read_definition, kept_rules, name_in_definition, name_of}
use Rattle.definition.specs.Steps.{walk_over, begun, finished, walk_body, walk_all}

pub zero-add : (n : ℕ) → 0 + n ≡ n
zero-add n = omega arith

-- ---- any question about a definition, put to its walk
tests : {B : Type 0} (b c : Bool) (d : Definition) (w : Walk) (f : Definition → Outcome B) (g : Walk → Outcome B) → f d ≡ g w
    → ((require b 12 >> (require c 2 >> answered d)) >>= f) ≡ ((require b 12 >> (require c 2 >> answered w)) >>= g)
tests true true d w f g e = e
tests true false d w f g e = refl
tests false c d w f g e = refl

same_tests : {B : Type 0} (b b' c : Bool) (d : Definition) (w : Walk) (f : Definition → Outcome B) (g : Walk → Outcome B) → b ≡ b' → f d ≡ g w
    → ((require b 12 >> (require c 2 >> answered d)) >>= f) ≡ ((require b' 12 >> (require c 2 >> answered w)) >>= g)
same_tests b b' c d w f g q e = rw (← q) (tests b c d w f g e)

-- the last two checks of a definition
abbrev judged : List ℕ → Header → Kept → Outcome Definition
judged s h k = do
  require (k.agree && eqb (active_rules k.rules) 1) 12
  require (not (eqb h.minor 1) || eqb k.end (length s)) 2
  answered (record { rules = k.rules; name_length = 2 * h.units })

module _ (s : List ℕ) {B : Type 0} (f : Definition → Outcome B) (g : Walk → Outcome B) where
  abbrev pub Same : Header → Type 0
  Same h = (k : Kept) → f (record { rules = k.rules; name_length = 2 * h.units }) ≡ g (walk_over (begun (4 + h.size)) k)

  body : (h : Header) → Same h → (o : Outcome Kept)
      → ((o >>= judged s h) >>= f)
      ≡ (((o >>= λ k. answered (walk_over (begun (4 + h.size)) k)) >>= finished s h) >>= g)
  unfolding walk_over
  body h e (refused m) = refl
  body h e (answered k) =
      same_tests (k.agree && eqb (active_rules k.rules) 1) (k.agree && eqb (0 + active_rules k.rules) 1) (not (eqb h.minor 1) || eqb k.end (length s))
      (record { rules = k.rules; name_length = 2 * h.units }) (walk_over (begun (4 + h.size)) k) f g
      (ap (λ (n : ℕ). k.agree && eqb n 1) (sym (zero-add (active_rules k.rules)))) (e k)

  pub by-header : (h : Header) → Same h → read_header s ≡ answered h → (read_definition s >>= f) ≡ (walk_body s h >>= g)
  unfolding read_definition walk_body
  by-header h e eh = rw eh (body h e (read_rules s h.count (4 + h.size) None))

  pub by-walk : ((h : Header) → Same h) → (read_definition s >>= f) ≡ (walk_all s >>= g)
  unfolding read_definition walk_all walk_body
  by-walk e = go (read_header s)
    where
      go : (o : Outcome Header)
          → ((o >>= λ h. (read_rules s h.count (4 + h.size) None >>= judged s h)) >>= f)
          ≡ ((o >>= walk_body s) >>= g)
      go (refused m) = refl
      go (answered h) = body h (e h) (read_rules s h.count (4 + h.size) None)

-- ---- the count
written-rules : (o : Outcome Definition) → written (o >>= λ d. answered d.rules) ≡ (o >>= λ d. answered (length d.rules))
written-rules (refused m) = refl
written-rules (answered d) = refl

pub kept-count : (s : List ℕ) → written (kept_rules s) ≡ (walk_all s >>= λ w. answered w.kept)
unfolding kept_rules walk_over
kept-count s =
    written-rules (read_definition s)
    ∙ by-walk s (λ d. answered (length d.rules)) (λ w. answered w.kept) (λ h k. ap answered (sym (zero-add (length k.rules))))

-- ---- the name
abbrev name_from : List ℕ → Outcome ℕ → List ℕ
name_from s (refused m) = []
name_from s (answered n) = part s 8 n

name_in : (s : List ℕ) (o : Outcome Definition) → name_in_definition s o ≡ name_from s (o >>= λ d. answered d.name_length)
name_in s (refused m) = refl
name_in s (answered d) = refl

pub no_name : (s : List ℕ) {n : ℕ} → read_header s ≡ refused n → [] ≡ name_of s
unfolding name_of read_definition
no_name s e = rw e

pub the-name : (s : List ℕ) (h : Header) → read_header s ≡ answered h → name_of s ≡ name_from s (walk_body s h >>= λ w. answered (2 * h.units))
unfolding name_of
the-name s h e = name_in s (read_definition s) ∙ ap (name_from s) (by-header s (λ d. answered d.name_length) (λ w. answered (2 * h.units)) h (λ k. refl) e)

-- from place 8 to the name's end
pub name-part : (s : List ℕ) (n : ℕ) → part s 8 n ≡ part s 8 (8 + n - 8)
name-part s n =
    let e : 8 + n - 8 ≡ n = omega arith in
    rw e

module _ (s : List ℕ) (h : Header) (eh : read_header s ≡ answered h) where
  pub name-refused : (r : Result Walk Refusal) → outcome_of r ≡ walk_body s h → is_err r ≡ true → [] ≡ name_of s
  name-refused (Err why) e t = sym (the-name s h eh ∙ rw (← e))
  name-refused (Ok w) e t = cc

  pub name-there : (r : Result Walk Refusal) → outcome_of r ≡ walk_body s h → is_err r ≡ false → part s 8 (8 + 2 * h.units - 8) ≡ name_of s
  name-there (Err why) e t = cc
  name-there (Ok w) e t = sym (the-name s h eh ∙ rw (← e) (name-part s (2 * h.units)))
