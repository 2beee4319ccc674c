-- Answers on tallies as C sees them: the refusal's number first, 0 for none, and the tally.
use Rattle.std.specs.Prelude.{ℕ, Result, Ok, Err}
use Rattle.refusal.specs.Number.{number_of}
use Rattle.refusal.specs.Outcome.{Outcome, refused, answered}
use Rattle.refusal.specs.declared.Refusal.{Refusal}
use Rattle.tally.specs.declared.tallies.Tally.{Tally}
use Rattle.answers_for_c.specs.declared.tallies.TallyForC.{TallyForC}

-- the tally that is answered, or this one beside a refusal; the padding is what C leaves between the two
abbrev pub tally_for_c : Outcome Tally → Tally → TallyForC
tally_for_c (answered new) t = record { refusal = 0; padding = 0; tally = new }
tally_for_c (refused n) t = record { refusal = n; padding = 0; tally = t }

-- the number of a refusal, 0 for none
abbrev pub number_checked : Result (Unit {0}) Refusal → ℕ
number_checked (Ok tt) = 0
number_checked (Err why) = number_of why
