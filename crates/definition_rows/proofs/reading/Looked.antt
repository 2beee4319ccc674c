-- A row filled from a look at a definition is what reading it says.
use Prim.Native.Nat.{ℕ, ◌≤◌}
use mathlib.Core.Path.{◌≡◌, refl, sym, ap, subst}
use mathlib.Core.List.{List, ◌++◌}
use lib.ListN.{length, drop}
use lib.Dec.{leb}
use borrow.Author.Tests.{leb-true}
use Rattle.refusal.specs.Outcome.{Outcome, refused, answered, ◌>>=◌}
use Rattle.refusal.specs.Lent.{written, lent_after}
use Rattle.refusal.proofs.OutcomeLaws.{refused≢answered, bind-answered, require-answered, answered-is}
use Rattle.struct_slices.specs.Loaded.{loaded, filled, times}
use Rattle.zone.specs.declared.rules.Rule.{Rule}
use Rattle.definition.specs.declared.answers.Look.{Look}
use Rattle.definition.specs.Definition.{read_definition, read_into}
use Rattle.definition.specs.Places.{rule_from, next_kept, first_rule, look_of}
use Rattle.definition.proofs.places.Kept.{into-fits, into-filled}
use Rattle.definition_rows.specs.Reading.{RulesThere}

-- ---- a look that is refused
same-refusal : {A B : Type 0} (f : A → B) (n : ℕ) (o : Outcome A) → (o >>= λ a. answered (f a)) ≡ refused n → o ≡ refused n
same-refusal f n (refused m) e = cc
same-refusal f n (answered a) e = absurd (refused≢answered n (f a) (sym e))

pub look-refused : (s : List ℕ) (room : ℕ) {n : ℕ} → look_of s room ≡ refused n → read_into s room ≡ refused n
look-refused s room {n} e = same-refusal _ n (read_into s room) e

-- ---- a look that is answered
-- the rules that a reading gives have room in the row
pub room_for : (s : List ℕ) (room : ℕ) (rules : List Rule) → read_into s room ≡ answered rules → length rules ≤ room
unfolding read_into
room_for s room rules e =
    let (d, ed, e1) = bind-answered (read_definition s) _ rules e in
    let (l, e2) = require-answered (leb (length d.rules) room) 13 _ rules e1 in
    subst (λ (m : List Rule). length m ≤ room) (answered-is d.rules rules e2) (leb-true (length d.rules) room l)

-- what a look into a row tells: there is room, each rule stands in the bytes, and the row filled by it is what reading says
pub record Looked (s : List ℕ) (ys : List Rule) (l : Look) : Type 0 where
  pub room : l.kept ≤ length ys
  pub there : RulesThere s l.kept l.start
  pub count : answered l.kept ≡ written (read_into s (length ys))
  pub row : loaded (rule_from s) (next_kept s) l.kept l.start ys ≡ lent_after (read_into s (length ys)) ys

rules-looked : (s : List ℕ) (ys rules : List Rule) → read_into s (length ys) ≡ answered rules → Looked s ys (record { kept = length rules; start = first_rule s })
rules-looked s ys rules r =
    let place : ℕ → ℕ = λ i. times (next_kept s) i (first_rule s) in
    record {
      room = room_for s (length ys) rules r;
      there = record { fits = into-fits s (length ys) rules r place refl (λ m. refl) };
      count = rw r;
      row =
          rw r
          (ap (λ (m : List Rule). m ++ drop (length rules) ys)
          (into-filled s (length ys) rules r place refl (λ m. refl) (filled (λ i. rule_from s (place i))) refl (λ m. refl)));
    }

pub looked : (s : List ℕ) (ys : List Rule) (l : Look) → look_of s (length ys) ≡ answered l → Looked s ys l
looked s ys l e =
    let (rules, r, k) = bind-answered (read_into s (length ys)) _ l e in
    subst (Looked s ys) (answered-is _ l k) (rules-looked s ys rules r)
