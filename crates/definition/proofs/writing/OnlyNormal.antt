-- Only a normal definition is written as the bytes that were read.
use Prim.Native.Nat.{ℕ, ◌+◌, ◌<◌, ◌≤◌}
use mathlib.Core.Path.{◌≡◌, sym, subst}
use mathlib.Core.List.{List, [], ◌∷◌}
use native.Mathlib.Omega.{arith}
use lib.ListN.{length}
use mir.Syntax.{w32}
use mir.Val.{SFits}
use mir.ValLaws.{to_z-Fits}
use Rattle.refusal.specs.Outcome.{answered}
use Rattle.little_endian.specs.Bytes.{AllBytes}
use Rattle.little_endian.specs.Fields.{unsigned_at, signed_at}
use Rattle.little_endian.proofs.FieldLaws.{field_lt}
use Rattle.little_endian.proofs.TwosComplementLaws.{signed-toZ}
use Rattle.zone.specs.declared.rules.Rule.{Rule}
use Rattle.zone.specs.Rules.{normal_rule}
use Rattle.zone.proofs.rules.Normal.{DateFits, RuleFits, fits-normal}
use Rattle.records.specs.Layout.{date_at, rule_at}
use Rattle.definition.specs.Definition.{Definition, rule_in, read_definition, name_of, write_definition}
use Rattle.definition.specs.Places.{next_kept, rule_from, first_rule}
use Rattle.definition.specs.Normal.{Normal}
use Rattle.definition.proofs.places.Kept.{KeptAt, definition-kept}
use Rattle.definition.proofs.writing.Accepted.{accepted}
use Rattle.definition.proofs.writing.RoundTrip.{AllFit, written-normal}

-- ---- what is read from bytes fits its types
module _ (s : List ℕ) (b : AllBytes s) where
  bias-fits : (at : ℕ) → at + 4 ≤ length s → SFits w32 (signed_at s at 4)
  bias-fits at h = rw (signed-toZ w32 (unsigned_at s at 4)) (to_z-Fits w32 (unsigned_at s at 4) (record { fits = field_lt 4 s b at h }))

  date-fits : (at : ℕ) → at + 16 ≤ length s → DateFits (date_at s at)
  unfolding date_at
  date-fits at h =
      record {
        year = field_lt 2 s b at (omega arith);
        month = field_lt 2 s b (at + 2) (omega arith);
        weekday = field_lt 2 s b (at + 4) (omega arith);
        day = field_lt 2 s b (at + 6) (omega arith);
        hour = field_lt 2 s b (at + 8) (omega arith);
        minute = field_lt 2 s b (at + 10) (omega arith);
        second = field_lt 2 s b (at + 12) (omega arith);
        millisecond = field_lt 2 s b (at + 14) (omega arith);
      }

  rule_fits : (at : ℕ) → at + 66 ≤ length s → RuleFits (rule_in s at)
  unfolding rule_at
  rule_fits at h =
      record {
        bias = bias-fits (at + 22) (omega arith);
        standard-bias = bias-fits (at + 22 + 4) (omega arith);
        daylight-bias = bias-fits (at + 22 + 8) (omega arith);
        standard = date-fits (at + 22 + 12) (omega arith);
        daylight = date-fits (at + 22 + 28) (omega arith);
      }

  year-fits : (at : ℕ) → at + 66 ≤ length s → (rule_from s at).year < 65536
  unfolding normal_rule rule_at
  year-fits at h = field_lt 2 s b (at + 6) (omega arith)

  row_fits : (row : List Rule) (at : ℕ) → KeptAt s at row → AllFit row
  row_fits [] at k = tt
  row_fits (r ∷ row) at k = (
    subst (λ (x : Rule). x.year < 65536) (sym k.0) (year-fits at k.1),
    subst RuleFits (sym k.0) (fits-normal (rule_in s at) (rule_fits at k.1)),
    row_fits row (next_kept s at) k.2,
  )

  pub definition-fits : (d : Definition) → read_definition s ≡ answered d → AllFit d.rules
  definition-fits d e = row_fits d.rules (first_rule s) (definition-kept s d e)

-- ---- and what is written is normal
pub only-normal : (s : List ℕ) (d : Definition) (room : ℕ) → AllBytes s → read_definition s ≡ answered d → write_definition (name_of s) d.rules room ≡ answered s → Normal s
only-normal s d room b e w =
    let a = accepted (name_of s) d.rules room s w in
    let small : length d.rules < 65536 = omega (arith, a.few) in
    subst Normal a.bytes (written-normal (name_of s) d.rules a.short a.even small (definition-fits s b d e))
