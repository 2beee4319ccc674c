-- Scripts with document 01's test for 19, which document 02's R-7 takes out: whatever the calls, 19 is never logged, and each outcome is that without the test.
use Prim.Native.Nat.{ℕ}
use mathlib.Core.Path.{◌≡◌, refl, ap}
use mathlib.Core.Bool.{Bool, false}
use mathlib.Core.List.{List, [], ◌∷◌}
use lib.ListN.{length}
use lib.Dec.{leb}
use Rattle.refusal.specs.Outcome.{Outcome, answered, require, ◌>>◌}
use Rattle.days.specs.Counting.{In}
use Rattle.zone.specs.declared.rules.Rule.{Rule}
use Rattle.tally.specs.declared.tallies.Tally.{Tally}
use Rattle.tally.specs.Tallies.{fresh}
use Rattle.account.specs.Calls.{Call, Told, Outcomes, told_of, tally_after}
use Rattle.account.specs.Pencil.{opened, account}
use Rattle.account.proofs.Number19.{told_of19, tally_after19, same-told, same-tally, pencil19, same-pencil}
use Rattle.script.specs.declared.ScriptCall.{ScriptCall}
use Rattle.script.specs.Scripts.{call_of, buffer_after, kept_after, scripted_from, scripted, script_outcome, numbers}
use Rattle.script.proofs.Numbers.{script-gives}

abbrev scripted_from19 : List Rule → Tally → List ℕ → Bool → List ScriptCall → List Call
scripted_from19 row t buffer kept [] = []
scripted_from19 row t buffer kept (c ∷ cs) =
    let call : Call = call_of c buffer kept in
    let told : Told = told_of19 row t call in
    call ∷ scripted_from19 row (tally_after19 row t call) (buffer_after told buffer) (kept_after told kept) cs

abbrev account19 : List Rule → List ScriptCall → List ℕ → Outcomes
account19 row calls buffer = pencil19 row opened (scripted_from19 row fresh buffer false calls)

abbrev script_outcome19 : List Rule → List ScriptCall → List ℕ → ℕ → Outcome Outcomes
script_outcome19 row calls buffer room = require (leb (length calls) room) 13 >> answered (account19 row calls buffer)

same-scripted : (row : List Rule) (t : Tally) (buffer : List ℕ) (kept : Bool) (cs : List ScriptCall) → scripted_from19 row t buffer kept cs ≡ scripted_from row t buffer kept cs
same-scripted row t buffer kept [] = refl
same-scripted row t buffer kept (c ∷ cs) =
    let call : Call = call_of c buffer kept in
    let told : Told = told_of row t call in
    rw (same-told row t call, same-tally row t call, same-scripted row (tally_after row t call) (buffer_after told buffer) (kept_after told kept) cs)

same-account : (row : List Rule) (calls : List ScriptCall) (buffer : List ℕ) → account19 row calls buffer ≡ account row (scripted row calls buffer)
same-account row calls buffer = rw (same-scripted row fresh buffer false calls, same-pencil row opened (scripted row calls buffer))

-- THE LAW: every outcome is the same
pub same-script : (row : List Rule) (calls : List ScriptCall) (buffer : List ℕ) (room : ℕ) → script_outcome19 row calls buffer room ≡ script_outcome row calls buffer room
same-script row calls buffer room = ap (λ (o : Outcomes). require (leb (length calls) room) 13 >> answered o) (same-account row calls buffer)

-- THE LAW: 19 is never logged
pub script-never-19 : (row : List Rule) (calls : List ScriptCall) (buffer : List ℕ) → In 19 (numbers (account19 row calls buffer).told) → ⊥
script-never-19 row calls buffer h = script-gives row calls buffer 19 (rw (same-account row calls buffer) at h)
