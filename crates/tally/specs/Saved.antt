-- The saved record of a tally, 68 bytes, little-endian: the length 66 of what follows, kind 1, the end in two's complement, seven totals from Sunday.
use Rattle.std.specs.Prelude.{ℕ, ◌+◌, ◌*◌, Bool, ◌&&◌, List, [], ◌∷◌, ◌++◌, length, eqb}
use Rattle.refusal.specs.Outcome.{Outcome, answered, require, ◌>>◌}
use Rattle.refusal.specs.Lent.{fitting}
use Rattle.little_endian.specs.Bytes.{to_bytes}
use Rattle.little_endian.specs.TwosComplement.{unsigned}
use Rattle.little_endian.specs.Fields.{unsigned_at, signed_at}
use Rattle.tally.specs.declared.tallies.Tally.{Tally}
use Rattle.tally.specs.Tallies.{seven, holds}

unfoldable pub total_bytes : List ℕ → List ℕ
total_bytes [] = []
total_bytes (x ∷ l) = to_bytes 8 x ++ total_bytes l

unfoldable pub record_of : Tally → List ℕ
record_of t = to_bytes 2 66 ++ to_bytes 2 1 ++ to_bytes 8 (unsigned 8 t.end.0) ++ total_bytes t.totals

-- saving: 18, then 13
unfoldable pub save_tally : Tally → ℕ → Outcome (List ℕ)
save_tally t room = do
  require (holds t) 18
  fitting (record_of t) room

abbrev pub totals_at : List ℕ → List ℕ
totals_at s = seven (λ w. unsigned_at s (12 + 8 * w) 8)

-- the tally that 68 bytes record
unfoldable pub recorded : List ℕ → Tally
recorded s = record { end = record { 0 = signed_at s 4 8 }; totals = totals_at s }

-- 68 bytes with that length and kind, and a tally that holds
unfoldable pub readable : List ℕ → Bool
readable s = (eqb (length s) 68 && eqb (unsigned_at s 0 2) 66) && (eqb (unsigned_at s 2 2) 1 && holds (recorded s))

unfoldable pub read_tally : List ℕ → Outcome Tally
read_tally s = do
  require (readable s) 18
  answered (recorded s)
