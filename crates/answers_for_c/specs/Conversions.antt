-- Answers of the conversions as C sees them: the refusal's number first, 0 for none, and zeros beside a refusal.
use Rattle.std.specs.Prelude.{ℕ, List, [], length, get_or}
use Rattle.refusal.specs.Outcome.{Outcome, refused, answered}
use Rattle.zone.specs.declared.ticks.UtcTick.{UtcTick}
use Rattle.zone.specs.declared.ticks.LocalTick.{LocalTick}
use Rattle.zone.specs.Ticks.{utc_tick, local_tick}
use Rattle.answers_for_c.specs.declared.conversions.LocalForC.{LocalForC}
use Rattle.answers_for_c.specs.declared.conversions.UtcForC.{UtcForC}

abbrev pub local_for_c : Outcome LocalTick → LocalForC
local_for_c (answered t) = record { refusal = 0; local = t }
local_for_c (refused n) = record { refusal = n; local = local_tick 0 }

-- the ticks in their order, and zero past the last one
abbrev pub ticks_for_c : ℕ → List UtcTick → UtcForC
ticks_for_c n l =
    record {
      refusal = n;
      count = length l;
      first = get_or l 0 (utc_tick 0);
      second = get_or l 1 (utc_tick 0);
      third = get_or l 2 (utc_tick 0);
      fourth = get_or l 3 (utc_tick 0);
    }

abbrev pub utc_for_c : Outcome (List UtcTick) → UtcForC
utc_for_c (answered l) = ticks_for_c 0 l
utc_for_c (refused n) = ticks_for_c n []
