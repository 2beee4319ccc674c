-- Scripts: lists of calls over one lent buffer, and what document 01's pencil account says of them.
use Rattle.std.specs.Prelude.{ℕ, zero, suc, Bool, true, false, cond, List, [], ◌∷◌, length, take, leb}
use Rattle.refusal.specs.Outcome.{Outcome, refused, answered, require, ◌>>◌}
use Rattle.refusal.specs.Lent.{lent_after}
use Rattle.zone.specs.declared.rules.Rule.{Rule}
use Rattle.zone.specs.declared.ticks.UtcTick.{UtcTick}
use Rattle.tally.specs.declared.tallies.Tally.{Tally}
use Rattle.tally.specs.Tallies.{fresh}
use Rattle.account.specs.Calls.{Call, book, save, read, Told, booked, saved, got, told_of, tally_after, Outcomes}
use Rattle.account.specs.Pencil.{account}
use Rattle.script.specs.declared.ScriptCall.{ScriptCall}

-- ---- the calls of a script

-- what a reading is given: the buffer's first 68 bytes while they are the last saved record and no run was accepted since, and else no bytes, which document 01 refuses
abbrev pub record_in : List ℕ → Bool → List ℕ
record_in buffer kept = cond kept (take 68 buffer) []

-- 0 books, 1 saves into the buffer, any other number reads the record in it
abbrev pub call_of_kind : ℕ → UtcTick → UtcTick → List ℕ → Bool → Call
call_of_kind zero a b buffer kept = book a b
call_of_kind (suc zero) a b buffer kept = save buffer
call_of_kind (suc (suc n)) a b buffer kept = read (record_in buffer kept)

abbrev pub call_of : ScriptCall → List ℕ → Bool → Call
call_of c buffer kept = call_of_kind c.kind c.from c.to buffer kept

-- the buffer after a call that was told this
abbrev pub buffer_after : Told → List ℕ → List ℕ
buffer_after (booked r) buffer = buffer
buffer_after (saved r out) buffer = out
buffer_after (got r) buffer = buffer

-- whether the buffer then starts with the record that the last accepted saving wrote, with no run accepted since
abbrev pub kept_after : Told → Bool → Bool
kept_after (booked (answered t)) kept = false
kept_after (booked (refused n)) kept = kept
kept_after (saved (answered n) out) kept = true
kept_after (saved (refused n) out) kept = kept
kept_after (got r) kept = kept

abbrev pub scripted_from : List Rule → Tally → List ℕ → Bool → List ScriptCall → List Call
scripted_from row t buffer kept [] = []
scripted_from row t buffer kept (c ∷ cs) =
    let call : Call = call_of c buffer kept in
    let told : Told = told_of row t call in
    call ∷ scripted_from row (tally_after row t call) (buffer_after told buffer) (kept_after told kept) cs

-- from a fresh tally, with nothing saved
abbrev pub scripted : List Rule → List ScriptCall → List ℕ → List Call
scripted row calls buffer = scripted_from row fresh buffer false calls

-- ---- what comes of them

-- 13 where the log has no room for a number of each call, else the pencil account
abbrev pub script_outcome : List Rule → List ScriptCall → List ℕ → ℕ → Outcome Outcomes
script_outcome row calls buffer room = require (leb (length calls) room) 13 >> answered (account row (scripted row calls buffer))

abbrev pub tally_told : Outcome Outcomes → Outcome Tally
tally_told (refused n) = refused n
tally_told (answered o) = answered o.tally

-- a refusal's number, 0 for an answer
abbrev pub number_told : {A : Type 0} → Outcome A → ℕ
number_told (refused n) = n
number_told (answered x) = 0

abbrev pub number_of_told : Told → ℕ
number_of_told (booked r) = number_told r
number_of_told (saved r out) = number_told r
number_of_told (got r) = number_told r

abbrev pub numbers : List Told → List ℕ
numbers [] = []
numbers (t ∷ ts) = number_of_told t ∷ numbers ts

abbrev pub buffer_end : List Told → List ℕ → List ℕ
buffer_end [] buffer = buffer
buffer_end (t ∷ ts) buffer = buffer_end ts (buffer_after t buffer)

-- the buffer and the log after a script; a refusal touches neither
abbrev pub buffer_left : Outcome Outcomes → List ℕ → List ℕ
buffer_left (refused n) buffer = buffer
buffer_left (answered o) buffer = buffer_end o.told buffer

abbrev pub log_left : Outcome Outcomes → List ℕ → List ℕ
log_left (refused n) log = log
log_left (answered o) log = lent_after (answered (numbers o.told)) log
