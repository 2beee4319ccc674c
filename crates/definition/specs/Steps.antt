-- What the code's steps give. No public answer rests on these: laws show that they are the definitions' values.
use Rattle.std.specs.Prelude.{ℕ, ◌+◌, ◌/◌, true, not, ◌&&◌, ◌||◌, List, [], ◌∷◌, ◌++◌, length, replicate, eqb, Option, Some, None}
use Rattle.refusal.specs.Outcome.{Outcome, answered, require, ◌>>=◌, ◌>>◌}
use Rattle.little_endian.specs.Bytes.{to_bytes}
use Rattle.zone.specs.declared.rules.Rule.{Rule}
use Rattle.rows.specs.Row.{active_rules}
use Rattle.definition.specs.declared.header.Header.{Header}
use Rattle.definition.specs.declared.walk.Walk.{Walk}
use Rattle.definition.specs.Definition.{Kept, read_one, read_rules, read_header}

-- the year of the last of some kept rules
abbrev pub before_after : Option ℕ → List Rule → Option ℕ
before_after before [] = before
before_after before (r ∷ row) = before_after (Some r.year) row

-- past one rule, or past some
unfoldable pub walk_over : Walk → Kept → Walk
walk_over w k =
    record {
      at = k.end;
      kept = w.kept + length k.rules;
      before = before_after w.before k.rules;
      active = w.active + active_rules k.rules;
      agree = w.agree && k.agree;
    }

abbrev pub begun : ℕ → Walk
begun at = record { at = at; kept = 0; before = None; active = 0; agree = true }

abbrev pub walk_one : List ℕ → Walk → Outcome Walk
walk_one s w = read_one s w.at w.before >>= λ k. answered (walk_over w k)

abbrev pub walk_rules : List ℕ → ℕ → Walk → Outcome Walk
walk_rules s n w = read_rules s n w.at w.before >>= λ k. answered (walk_over w k)

-- the last two checks of a reading
abbrev pub finished : List ℕ → Header → Walk → Outcome Walk
finished s h w = require (w.agree && eqb w.active 1) 12 >> (require (not (eqb h.minor 1) || eqb w.at (length s)) 2 >> answered w)

unfoldable pub walk_body : List ℕ → Header → Outcome Walk
walk_body s h = walk_rules s h.count (begun (4 + h.size)) >>= finished s h

unfoldable pub walk_all : List ℕ → Outcome Walk
walk_all s = read_header s >>= walk_body s

-- the bytes of a rule before its biases, and of a definition before its rules
unfoldable pub rule_head : ℕ → ℕ → List ℕ
rule_head flags year = (2 ∷ 1 ∷ []) ++ to_bytes 2 62 ++ to_bytes 2 flags ++ to_bytes 2 year ++ replicate 14 0

unfoldable pub header_bytes : List ℕ → ℕ → List ℕ
header_bytes name count = (2 ∷ 1 ∷ []) ++ to_bytes 2 (6 + length name) ++ to_bytes 2 0x0002 ++ to_bytes 2 (length name / 2) ++ name ++ to_bytes 2 count
