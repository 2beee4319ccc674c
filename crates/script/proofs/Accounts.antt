-- What the loop over the calls leaves is what the pencil account says.
use mathlib.Core.Path.{◌≡◌, refl, sym, ap, ◌∙◌, subst}
use mathlib.Core.Bool.{Bool, true, false, cond}
use mathlib.Core.List.{List, [], ◌∷◌, ◌++◌}
use Prim.Native.Nat.{ℕ, zero, suc, ◌+◌, ◌≤◌}
use native.Mathlib.Omega.{arith}
use native.Mathlib.Numerals.{add-one}
use lib.Dec.{leb, ltb}
use lib.ListN.{length, set, drop, drop_of_length-le}
use lib.Seq.{sets, sets-eq}
use borrow.Author.Tests.{ltb-true, ltb-false, leb-true, leb-false, ne_eqb}
use Rattle.refusal.specs.Outcome.{Outcome, refused, answered, require, ◌>>◌}
use Rattle.refusal.specs.Lent.{written, lent_after}
use Rattle.zone.specs.declared.rules.Rule.{Rule}
use Rattle.zone.specs.declared.ticks.UtcTick.{UtcTick}
use Rattle.tally.specs.declared.tallies.Tally.{Tally}
use Rattle.tally.specs.declared.tallies.Answer.{Answer}
use Rattle.tally.specs.Saved.{save_tally}
use Rattle.tally.specs.Answers.{of_tally, or_else, no_tally}
use Rattle.tally.proofs.BookingLaws.{book-is}
use Rattle.account.specs.Calls.{Call, Told, booked, saved, told_of, tally_after, Outcomes, calls as all-calls}
use Rattle.account.specs.Pencil.{account}
use Rattle.account.proofs.Demand3Holds.{demand3-in}
use Rattle.script.specs.declared.ScriptCall.{ScriptCall}
use Rattle.script.specs.declared.State.{State}
use Rattle.script.specs.Scripts.{call_of, buffer_after, kept_after, scripted_from, scripted, script_outcome, tally_told, number_told, number_of_told, numbers, buffer_end, buffer_left, log_left}
use Rattle.script.specs.Steps.{Held, started_at, begun, taken, told_to, after, booked_in, buffer_state, buffer_bytes, logged_state, logged_bytes, turned, runs, rest, finished}
use Rattle.script.proofs.Listing.{listed}

-- ---- a turn

-- the state, the buffer and the log after a call that was told this
abbrev held_after : ScriptCall → Held → Told → Tally → Held
held_after c h told t = (logged_state h.1.1 (after told t (taken c h.0)), (buffer_after told h.1.0, set h.1.1 h.0.at (number_of_told told)))

-- a turn from the state after the booking
abbrev turned_with : Held → State → Held
turned_with h s = (logged_state h.1.1 (buffer_state h.1.0 s), (buffer_bytes h.1.0 s, logged_bytes h.1.1 (buffer_state h.1.0 s)))

kept-saved : (r : Outcome ℕ) (out : List ℕ) (kept : Bool) → kept_after (saved r []) kept ≡ kept_after (saved r out) kept
kept-saved (refused n) out kept = refl
kept-saved (answered n) out kept = refl

turn-of-kind : (row : List Rule) (k : ℕ) (a b : UtcTick) (h : Held) → let c : ScriptCall = record { kind = k; from = a; to = b } in let call : Call = call_of c h.1.0 h.0.kept in turned row c h ≡ held_after c h (told_of row h.0.tally call) (tally_after row h.0.tally call)
unfolding told_of tally_after
turn-of-kind row zero a b h =
    let c : ScriptCall = record { kind = 0; from = a; to = b } in
    ap (λ (r : Outcome Tally). held_after c h (booked r) (or_else r h.0.tally)) (book-is row h.0.tally a b).answer
turn-of-kind row (suc zero) a b h =
    let c : ScriptCall = record { kind = 1; from = a; to = b } in
    let r : Outcome (List ℕ) = save_tally h.0.tally (length h.1.0) in
    ap (λ (kept : Bool). (logged_state h.1.1 (told_to (number_told (written r)) kept h.0.tally (taken c h.0)), (lent_after r h.1.0, set h.1.1 h.0.at (number_told (written r)))))
    (kept-saved (written r) (lent_after r h.1.0) h.0.kept)
turn-of-kind row (suc (suc n)) a b h =
    let c : ScriptCall = record { kind = suc (suc n); from = a; to = b } in
    let s : State = taken c h.0 in
    ap (λ (x : Bool). turned_with h (cond x (booked_in row s) s)) (ne_eqb (suc (suc n)) 0 (omega arith))

-- ---- all turns
record Comes (h : Held) (b : Bool) (bs ls : List ℕ) (i : ℕ) (o : Outcomes) : Type 0 where
  tally : h.0.tally ≡ o.tally
  short : h.0.short ≡ b
  buffer : h.1.0 ≡ buffer_end o.told bs
  log : h.1.1 ≡ sets ls i (numbers o.told)

abbrev all_told : List Rule → List ScriptCall → Held → Outcomes
all_told row cs h = all-calls row h.0.tally (scripted_from row h.0.tally h.1.0 h.0.kept cs)

comes : (row : List Rule) (cs : List ScriptCall) (h : Held) → Comes (runs row cs h) h.0.short h.1.0 h.1.1 h.0.at (all_told row cs h)
unfolding all-calls
comes row [] h = record { tally = refl; short = refl; buffer = refl; log = refl }
comes row (c ∷ cs) h =
    let call : Call = call_of c h.1.0 h.0.kept in
    let told : Told = told_of row h.0.tally call in
    let k : Held = held_after c h told (tally_after row h.0.tally call) in
    let i = comes row cs k in
    subst (λ (z : Held). Comes (runs row cs z) h.0.short h.1.0 h.1.1 h.0.at (all_told row (c ∷ cs) h)) (sym (turn-of-kind row c.kind c.from c.to h))
    (record {
      tally = i.tally;
      short = i.short;
      buffer = i.buffer;
      log = i.log ∙ ap (λ (n : ℕ). sets (set h.1.1 h.0.at (number_of_told told)) n (numbers (all_told row cs k).told)) (add-one h.0.at);
    })

-- a number for each call
count : (row : List Rule) (cs : List ScriptCall) (h : Held) → length (numbers (all_told row cs h).told) ≡ length cs
unfolding all-calls
count row [] h = refl
count row (c ∷ cs) h =
    let call : Call = call_of c h.1.0 h.0.kept in
    ap suc (count row cs (held_after c h (told_of row h.0.tally call) (tally_after row h.0.tally call)))

-- ---- the whole
module _ (row : List Rule) (calls : List ScriptCall) (buffer log : List ℕ) where
  -- what the loop gives, and what the contract says
  abbrev pub Ends : Answer → List ℕ → List ℕ → Type 0
  Ends r bs ls =
      let h : Held = rest row calls (begun (length calls) (length log), (buffer, log)) in
      (r ≡ finished h.0) × ((bs ≡ h.1.0) × (ls ≡ h.1.1))

  abbrev pub Ran : Answer → List ℕ → List ℕ → Type 0
  Ran r bs ls =
      let o : Outcome Outcomes = script_outcome row calls buffer (length log) in
      ((of_tally r ≡ tally_told o) × (r.tally ≡ or_else (tally_told o) no_tally)) × ((bs ≡ buffer_left o buffer) × (ls ≡ log_left o log))

  abbrev n : ℕ
  n = length calls

  abbrev pencilled : Outcomes
  pencilled = account row (scripted row calls buffer)

  record Ended (o : Outcome Outcomes) (h : Held) : Type 0 where
    answer : of_tally (finished h.0) ≡ tally_told o
    tally : (finished h.0).tally ≡ or_else (tally_told o) no_tally
    kept : h.1.0 ≡ buffer_left o buffer
    logged : h.1.1 ≡ log_left o log

  -- too short a log: no turn is made
  none_made : Ended (refused 13) (rest row calls (started_at n n true, (buffer, log)))
  none_made =
      subst (λ (cs : List ScriptCall). Ended (refused 13) (runs row cs (started_at n n true, (buffer, log)))) (sym (drop_of_length-le calls {i = n} (omega arith)))
      (record { answer = refl; tally = refl; kept = refl; logged = refl })

  -- a tally that is not short is the answer
  done : (s : State) (t : Tally) → s.short ≡ false → s.tally ≡ t → finished s ≡ finished (told_to 0 false t (started_at 0 n false))
  done s t e f = λ i. cond (e i) (finished (started_at 0 n true)) (record { check = (finished (started_at 0 n false)).check; tally = f i })

  all_made : n ≤ length log → Ended (answered pencilled) (rest row calls (started_at 0 n false, (buffer, log)))
  all_made h =
      let first : Held = (started_at 0 n false, (buffer, log)) in
      let last : Held = rest row calls first in
      let c = comes row calls first in
      let e : all_told row calls first ≡ pencilled = (demand3-in row).same (scripted row calls buffer) (listed row calls buffer) in
      let t : last.0.tally ≡ pencilled.tally = c.tally ∙ ap (λ (o : Outcomes). o.tally) e in
      let m : length (numbers pencilled.told) ≡ n = sym (ap (λ (o : Outcomes). length (numbers o.told)) e) ∙ count row calls first in
      let ns : List ℕ = numbers pencilled.told in
      let z : 0 + length ns ≡ length ns = omega arith in
      let d = done last.0 pencilled.tally c.short t in
      record {
        answer = ap of_tally d;
        tally = ap (λ (r : Answer). r.tally) d;
        kept = c.buffer ∙ ap (λ (o : Outcomes). buffer_end o.told buffer) e;
        logged = c.log ∙ ap (λ (o : Outcomes). sets log 0 (numbers o.told)) e ∙ sets-eq ns log 0 (omega (arith, m, h)) ∙ ap (λ (k : ℕ). ns ++ drop k log) z;
      }

  result : Ended (script_outcome row calls buffer (length log)) (rest row calls (begun n (length log), (buffer, log)))
  result = go (leb n (length log)) refl (ltb (length log) n) refl
    where
      go : (a : Bool) → leb n (length log) ≡ a → (b : Bool) → ltb (length log) n ≡ b → Ended (require a 13 >> answered pencilled) (rest row calls (cond b (started_at n n true) (started_at 0 n false), (buffer, log)))
      go true e true f = absurd (omega (arith, leb-true n (length log) e, ltb-true (length log) n f))
      go true e false f = all_made (leb-true n (length log) e)
      go false e true f = none_made
      go false e false f = absurd (omega (arith, leb-false n (length log) e, ltb-false (length log) n f))

  pub ran : (r : Answer) (bs ls : List ℕ) → Ends r bs ls → Ran r bs ls
  ran r bs ls e =
      ((ap of_tally e.0 ∙ result.answer, ap (λ (x : Answer). x.tally) e.0 ∙ result.tally), (e.1.0 ∙ result.kept, e.1.1 ∙ result.logged))
