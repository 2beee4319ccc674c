-- What the steps of a script give. No public contract rests on these: laws show that they come to the definition.
use Rattle.std.specs.Prelude.{ℕ, zero, suc, ◌+◌, Bool, true, false, cond, List, [], ◌∷◌, pos, length, get_or, set, drop, ltb, eqb, Ok, Err}
use Rattle.refusal.specs.declared.Refusal.TheVariants.{NoRoom}
use Rattle.refusal.specs.Outcome.{Outcome}
use Rattle.refusal.specs.Lent.{written, lent_after}
use Rattle.zone.specs.declared.rules.Rule.{Rule}
use Rattle.tally.specs.declared.tallies.Tally.{Tally}
use Rattle.tally.specs.declared.tallies.Answer.{Answer}
use Rattle.tally.specs.declared.booking.Booking.{Booking}
use Rattle.tally.specs.Tallies.{fresh}
use Rattle.tally.specs.Saved.{save_tally, read_tally}
use Rattle.tally.specs.Answers.{of_tally, or_else, no_tally}
use Rattle.tally.specs.Steps.{asked, booked_on}
use Rattle.account.specs.Calls.{Told, booked, saved, got}
use Rattle.script.specs.declared.ScriptCall.{ScriptCall}
use Rattle.script.specs.declared.State.{State}
use Rattle.script.specs.Scripts.{kept_after, number_of_told, record_in}

-- ---- the start
abbrev pub no_call : ScriptCall
no_call = record { kind = 0; from = record { 0 = pos 0 }; to = record { 0 = pos 0 } }

abbrev pub started_at : ℕ → ℕ → Bool → State
started_at at end short = record { at = at; end = end; short = short; kept = false; told = 0; call = no_call; tally = fresh }

abbrev pub begun : ℕ → ℕ → State
begun calls room = cond (ltb room calls) (started_at calls calls true) (started_at 0 calls false)

abbrev pub is_going : State → Bool
is_going s = ltb s.at s.end

-- ---- the call
abbrev pub taken : ScriptCall → State → State
taken c s = record { at = s.at; end = s.end; short = s.short; kept = s.kept; told = s.told; call = c; tally = s.tally }

abbrev pub took : List ScriptCall → State → State
took calls s = taken (get_or calls s.at no_call) s

-- ---- what it is told
abbrev pub told_to : ℕ → Bool → Tally → State → State
told_to n kept t s = record { at = s.at; end = s.end; short = s.short; kept = kept; told = n; call = s.call; tally = t }

-- after a call that was told this, with this tally
abbrev pub after : Told → Tally → State → State
after told t s = told_to (number_of_told told) (kept_after told s.kept) t s

-- ---- a booking
abbrev pub asked_by : State → Booking
asked_by s = asked s.tally s.call.from s.call.to

abbrev pub after_booking : Answer → State → State
after_booking r s = after (booked (of_tally r)) (or_else (of_tally r) s.tally) s

abbrev pub booked_in : List Rule → State → State
booked_in row s = after_booking (booked_on row (asked_by s)) s

abbrev pub booked_call : List Rule → State → State
booked_call row s = cond (eqb s.call.kind 0) (booked_in row s) s

-- ---- a saving, and a reading
abbrev pub after_saving : Outcome ℕ → State → State
after_saving r s = after (saved r []) s.tally s

abbrev pub after_reading : Outcome Tally → State → State
after_reading r s = after (got r) (or_else r s.tally) s

abbrev pub record_length : Bool → ℕ → ℕ
record_length kept room = cond kept (cond (ltb room 68) room 68) 0

abbrev pub state_of_kind : ℕ → List ℕ → State → State
state_of_kind zero buffer s = s
state_of_kind (suc zero) buffer s = after_saving (written (save_tally s.tally (length buffer))) s
state_of_kind (suc (suc n)) buffer s = after_reading (read_tally (record_in buffer s.kept)) s

abbrev pub bytes_of_kind : ℕ → List ℕ → State → List ℕ
bytes_of_kind zero buffer s = buffer
bytes_of_kind (suc zero) buffer s = lent_after (save_tally s.tally (length buffer)) buffer
bytes_of_kind (suc (suc n)) buffer s = buffer

abbrev pub buffer_state : List ℕ → State → State
buffer_state buffer s = state_of_kind s.call.kind buffer s

abbrev pub buffer_bytes : List ℕ → State → List ℕ
buffer_bytes buffer s = bytes_of_kind s.call.kind buffer s

-- ---- the log
abbrev pub logged_state : List ℕ → State → State
logged_state log s = record { at = s.at + 1; end = s.end; short = s.short; kept = s.kept; told = s.told; call = s.call; tally = s.tally }

abbrev pub logged_bytes : List ℕ → State → List ℕ
logged_bytes log s = set log s.at s.told

-- ---- the whole

-- the state, the buffer and the log
abbrev pub Held : Type 0
Held = State × (List ℕ × List ℕ)

abbrev pub turn_state : List Rule → List ScriptCall → List ℕ → List ℕ → State → State
turn_state row calls buffer log s = logged_state log (buffer_state buffer (booked_call row (took calls s)))

abbrev pub turn_buffer : List Rule → List ScriptCall → List ℕ → List ℕ → State → List ℕ
turn_buffer row calls buffer log s = buffer_bytes buffer (booked_call row (took calls s))

abbrev pub turn_log : List Rule → List ScriptCall → List ℕ → List ℕ → State → List ℕ
turn_log row calls buffer log s = logged_bytes log (buffer_state buffer (booked_call row (took calls s)))

-- a turn with this call
abbrev pub turned : List Rule → ScriptCall → Held → Held
turned row c h =
    let s : State = booked_call row (taken c h.0) in
    let t : State = buffer_state h.1.0 s in (
      logged_state h.1.1 t,
      (buffer_bytes h.1.0 s, logged_bytes h.1.1 t),
    )

-- all calls of a list, one after the other
abbrev pub runs : List Rule → List ScriptCall → Held → Held
runs row [] h = h
runs row (c ∷ cs) h = runs row cs (turned row c h)

-- the calls from the next one on
abbrev pub rest : List Rule → List ScriptCall → Held → Held
rest row calls h = runs row (drop h.0.at calls) h

abbrev pub finished : State → Answer
finished s = cond s.short (record { check = Err NoRoom; tally = no_tally }) (record { check = (Ok tt); tally = s.tally })
