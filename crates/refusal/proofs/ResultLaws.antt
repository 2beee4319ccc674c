-- A result is the only one that stands for its outcome.
use mathlib.Core.Path.{◌≡◌, refl, sym, ap, ◌∙◌}
use Rattle.std.specs.Prelude.{Result, Ok, Err}
use Rattle.refusal.specs.declared.Refusal.{Refusal}
use Rattle.refusal.specs.Outcome.{Outcome}
use Rattle.refusal.specs.Results.{outcome_of, result_of}
use Rattle.refusal.proofs.Numbers.{number-back}
use Rattle.refusal.proofs.OutcomeLaws.{only-answer}

pub result-back : {A : Type 0} (r : Result A Refusal) → result_of (outcome_of r) ≡ r
result-back (Ok answer) = refl
result-back (Err why) = ap Err (number-back why)

pub result-is : {A : Type 0} (r : Result A Refusal) (o : Outcome A) → outcome_of r ≡ o → r ≡ result_of o
result-is r o e = sym (result-back r) ∙ ap result_of e

-- two results that stand for the same are equal
pub only-result : {A : Type 0} (a b : Result A Refusal) → outcome_of a ≡ outcome_of b → a ≡ b
only-result = only-answer outcome_of result_of result-back
