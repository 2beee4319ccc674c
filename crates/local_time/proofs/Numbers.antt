-- The numbers that UTC to local and local to UTC are refused with.
use Prim.Native.Nat.{ℕ}
use mathlib.Core.List.{List, [], ◌∷◌, map}
use lib.IntN.{ℤ, pos, negsuc}
use Rattle.refusal.specs.Outcome.{answered, ◌>>=◌}
use Rattle.refusal.proofs.Gives.{OneOf, Gives, gives_then, gives-test}
use Rattle.days.specs.Counting.{among}
use Rattle.calendar.specs.Fields.{not_negative}
use Rattle.zone.specs.declared.rules.Rule.{Rule}
use Rattle.zone.specs.declared.ticks.UtcTick.{UtcTick}
use Rattle.zone.specs.declared.ticks.LocalTick.{LocalTick}
use Rattle.zone.specs.Ticks.{window_start, window_end, utc_tick}
use Rattle.rows.specs.Row.{check_row}
use Rattle.rows.specs.Search.{has_rule}
use Rattle.rows.proofs.CheckLaws.{row_gives}
use Rattle.local_time.specs.LocalTime.{in_window, shows, utc_to_local, local_to_utc}
use Rattle.local_time.proofs.LocalLaws.{after_row}

-- ---- UTC to local
abbrev pub LocalNumber : ℕ → Type 0
LocalNumber = OneOf (6 ∷ 8 ∷ 10 ∷ 11 ∷ 9 ∷ 12 ∷ 15 ∷ 16 ∷ [])

pub local-gives : (row : List Rule) (t : UtcTick) → Gives LocalNumber (utc_to_local row t)
unfolding utc_to_local
local-gives row t = gives_then LocalNumber (check_row row) _ (row_gives LocalNumber tt tt tt tt tt tt row) (signed t.0)
  where
    signed : (z : ℤ) → Gives LocalNumber (after_row row z)
    signed (pos u) = gives-test LocalNumber (in_window u) 15 _ tt (gives-test LocalNumber (has_rule row u) 16 _ tt tt)
    signed (negsuc n) = tt

-- ---- local to UTC
abbrev pub UtcNumber : ℕ → Type 0
UtcNumber = OneOf (6 ∷ 8 ∷ 10 ∷ 11 ∷ 9 ∷ 12 ∷ 15 ∷ [])

pub utc-gives : (row : List Rule) (l : LocalTick) → Gives UtcNumber (local_to_utc row l)
unfolding local_to_utc
utc-gives row l = gives_then UtcNumber (check_row row) _ (row_gives UtcNumber tt tt tt tt tt tt row) (signed l.0)
  where
    signed : (z : ℤ) → Gives UtcNumber (not_negative z >>= (λ n. answered (map utc_tick (among (shows row n) window_start window_end))))
    signed (pos n) = tt
    signed (negsuc n) = tt
