-- Where the kept rules of a definition stand. `Kept` in proofs/places shows that read_rules keeps the rules at these places, in this order.
use Rattle.std.specs.Prelude.{ℕ, zero, suc, ◌+◌, cond, List, [], length, leb, eqb}
use Rattle.refusal.specs.Outcome.{Outcome, refused, answered, ◌>>=◌}
use Rattle.little_endian.specs.Fields.{unsigned_at}
use Rattle.zone.specs.declared.rules.Rule.{Rule}
use Rattle.zone.specs.Rules.{normal_rule}
use Rattle.definition.specs.declared.answers.Look.{Look}
use Rattle.definition.specs.Definition.{rule_in, read_into}

-- past the rule at a place, by its stated size
abbrev pub after_rule : List ℕ → ℕ → ℕ
after_rule s at = at + 4 + unsigned_at s (at + 2) 2

-- from a place on, the first rule of major 2, or where the bytes end before another head; at most so many others are passed
unfoldable pub first_of : ℕ → List ℕ → ℕ → ℕ
first_of zero s at = at
first_of (suc more) s at = cond (leb (at + 4) (length s)) (cond (eqb (unsigned_at s at 1) 2) at (first_of more s (after_rule s at))) at

-- each rule has four bytes or more, so that the bytes' length is enough
abbrev pub first_kept : List ℕ → ℕ → ℕ
first_kept s at = first_of (length s) s at

abbrev pub next_kept : List ℕ → ℕ → ℕ
next_kept s at = first_kept s (after_rule s at)

-- the rule at a place, in normal form
abbrev pub rule_from : List ℕ → ℕ → Rule
rule_from s at = normal_rule (rule_in s at)

-- the first kept rule of a definition: the header's stated size is at place 2, and counts from place 4 on
abbrev pub first_rule : List ℕ → ℕ
first_rule s = first_kept s (4 + unsigned_at s 2 2)

-- n steps from a start
abbrev pub times : {A : Type 0} → (A → A) → ℕ → A → A
times f zero x = x
times f (suc n) x = f (times f n x)

-- the place of the n-th kept rule, the first being the 0th
abbrev pub kept_place : List ℕ → ℕ → ℕ
kept_place s n = times (next_kept s) n (first_rule s)

-- ---- what a look at a definition gives, for a row with room for so many rules: how many it will fill in, and the place of the first
abbrev pub look_of : List ℕ → ℕ → Outcome Look
look_of s room = do
  rules ← read_into s room
  answered (record { kept = length rules; start = first_rule s })

-- the rules of a reading; none where it refuses
abbrev pub rules_told : Outcome (List Rule) → List Rule
rules_told (refused n) = []
rules_told (answered rules) = rules
