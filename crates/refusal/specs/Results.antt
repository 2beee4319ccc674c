-- What a call's result stands for: its answer, or the number of its refusal.
use Rattle.std.specs.Prelude.{Result, Ok, Err}
use Rattle.refusal.specs.declared.Refusal.{Refusal}
use Rattle.refusal.specs.Number.{number_of, refusal_of}
use Rattle.refusal.specs.Outcome.{Outcome, refused, answered}

abbrev pub outcome_of : {A : Type 0} → Result A Refusal → Outcome A
outcome_of (Ok answer) = answered answer
outcome_of (Err why) = refused (number_of why)

-- the result that stands for an outcome
abbrev pub result_of : {A : Type 0} → Outcome A → Result A Refusal
result_of (answered answer) = Ok answer
result_of (refused n) = Err (refusal_of n)
