-- The paper's number, or the values, that each case of an answer stands for, and the tally that is handed back.
use Rattle.std.specs.Prelude.{Result, Ok, Err}
use Rattle.refusal.specs.Number.{number_of, refusal_of}
use Rattle.refusal.specs.Outcome.{Outcome, refused, answered}
use Rattle.refusal.specs.declared.Refusal.{Refusal}
use Rattle.zone.specs.Ticks.{utc_tick}
use Rattle.tally.specs.declared.tallies.Tally.{Tally}
use Rattle.tally.specs.declared.tallies.Held.{Held}
use Rattle.tally.specs.declared.tallies.Answer.{Answer}
use Rattle.tally.specs.Tallies.{seven, holds}

-- whether a tally holds, and the tally as it was
unfoldable pub held_of : Tally → Held
held_of t = record { holds = holds t; tally = t }

-- a tally where the check is passed, else the number
abbrev pub checked_tally : Result (Unit {0}) Refusal → Tally → Outcome Tally
checked_tally (Ok tt) t = answered t
checked_tally (Err why) t = refused (number_of why)

abbrev pub of_tally : Answer → Outcome Tally
of_tally r = checked_tally r.check r.tally

-- the tally that is answered, or else this one
abbrev pub or_else : Outcome Tally → Tally → Tally
or_else (answered new) t = new
or_else (refused n) t = t

-- an outcome beside a tally: the tally that is answered, or the refusal and the tally as it was
abbrev pub answer_of : Outcome Tally → Tally → Answer
answer_of (answered new) t = record { check = Ok tt; tally = new }
answer_of (refused n) t = record { check = Err (refusal_of n); tally = t }

-- What stands beside a refused reading: a tally that does not hold, so that nobody goes on with it by mistake.
unfoldable pub no_tally : Tally
no_tally = record { end = utc_tick 0; totals = seven (λ w. 0) }
