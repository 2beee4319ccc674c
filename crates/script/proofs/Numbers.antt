-- The numbers that a script leaves in its log: 0 for an answer, or those of the calls on a tally.
use Prim.Native.Nat.{ℕ}
use mathlib.Core.List.{List, [], ◌∷◌}
use mathlib.Core.Logic.{inl, inr}
use Rattle.refusal.specs.Outcome.{Outcome, refused, answered}
use Rattle.refusal.proofs.Gives.{OneOf, Gives, one_more}
use Rattle.days.specs.Counting.{In}
use Rattle.zone.specs.declared.rules.Rule.{Rule}
use Rattle.account.specs.Calls.{Told, booked, saved, got}
use Rattle.account.specs.Pencil.{opened, account}
use Rattle.account.proofs.Numbers.{tally_numbers, TallyNumber, Tells, AllTell, pencil-gives}
use Rattle.script.specs.declared.ScriptCall.{ScriptCall}
use Rattle.script.specs.Scripts.{scripted, number_told, number_of_told, numbers}

abbrev pub LogNumber : ℕ → Type 0
LogNumber = OneOf (0 ∷ tally_numbers)

number-told : {A : Type 0} (o : Outcome A) → Gives TallyNumber o → LogNumber (number_told o)
number-told (refused n) k = one_more 0 tally_numbers n k
number-told (answered x) k = tt

number-of-told : (t : Told) → Tells TallyNumber t → LogNumber (number_of_told t)
number-of-told (booked o) k = number-told o k
number-of-told (saved o out) k = number-told o k
number-of-told (got o) k = number-told o k

in-log : (n : ℕ) (ts : List Told) → AllTell TallyNumber ts → In n (numbers ts) → LogNumber n
in-log n [] k h = absurd h
in-log n (t ∷ ts) k (inl e) = rw e (number-of-told t k.0)
in-log n (t ∷ ts) k (inr h) = in-log n ts k.1 h

-- THE LAW: every number that a script logs
pub script-gives : (row : List Rule) (calls : List ScriptCall) (buffer : List ℕ) (n : ℕ) → In n (numbers (account row (scripted row calls buffer)).told) → LogNumber n
script-gives row calls buffer n h = in-log n (account row (scripted row calls buffer)).told (pencil-gives row opened (scripted row calls buffer)) h
