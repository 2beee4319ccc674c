-- What the two conversions stand for.
use Rattle.std.specs.Prelude.{List, Result, Ok, Err}
use Rattle.refusal.specs.Number.{number_of}
use Rattle.refusal.specs.Outcome.{Outcome, refused, answered}
use Rattle.refusal.specs.declared.Refusal.{Refusal}
use Rattle.zone.specs.declared.ticks.UtcTick.{UtcTick}
use Rattle.in_force.specs.declared.shown.UpToFour.{UpToFour}
use Rattle.in_force.specs.Shown.{ticks_of}

-- the UTC ticks that show a local tick, or the number of the refusal
abbrev pub of_utc : Result (UpToFour UtcTick) Refusal → Outcome (List UtcTick)
of_utc (Ok ticks) = answered (ticks_of ticks)
of_utc (Err why) = refused (number_of why)
