-- The loop over the calls: what a turn leaves as it was, and that the calls from the next one on are all that is left.
use mathlib.Core.Path.{◌≡◌, refl, sym, ap, ◌∙◌}
use mathlib.Core.Bool.{Bool, true, false, cond, not}
use mathlib.Core.List.{List}
use Prim.Native.Nat.{ℕ, zero, suc, ◌+◌, ◌-◌, ◌<◌, ◌≤◌}
use native.Mathlib.Omega.{arith}
use native.Mathlib.Numerals.{add-one}
use lib.Dec.{T, ltb, ltb→lt, eqb}
use lib.ListN.{length, drop, drop_of_length-le, length-set}
use lib.Seq.{drop-cons}
use borrow.Author.Tests.{ltb-false}
use Rattle.zone.specs.declared.rules.Rule.{Rule}
use Rattle.script.specs.declared.ScriptCall.{ScriptCall}
use Rattle.script.specs.declared.State.{State}
use Rattle.script.specs.Steps.{Held, no_call, started_at, begun, is_going, took, booked_in, booked_call, state_of_kind, buffer_state, turn_state, turn_buffer, turn_log, runs, rest}

-- ---- what a call leaves as it was
record Stays (s t : State) : Type 0 where
  at : t.at ≡ s.at
  end : t.end ≡ s.end

booked-stays : (row : List Rule) (s : State) → Stays s (booked_call row s)
booked-stays row s = go (eqb s.call.kind 0)
  where
    go : (b : Bool) → Stays s (cond b (booked_in row s) s)
    go true = record { at = refl; end = refl }
    go false = record { at = refl; end = refl }

kind-stays : (k : ℕ) (buffer : List ℕ) (s : State) → Stays s (state_of_kind k buffer s)
kind-stays zero buffer s = record { at = refl; end = refl }
kind-stays (suc zero) buffer s = record { at = refl; end = refl }
kind-stays (suc (suc n)) buffer s = record { at = refl; end = refl }

stays : (row : List Rule) (buffer : List ℕ) (s : State) → Stays s (buffer_state buffer (booked_call row s))
stays row buffer s =
    let b = booked-stays row s in
    let k = kind-stays (booked_call row s).call.kind buffer (booked_call row s) in
    record { at = k.at ∙ b.at; end = k.end ∙ b.end }

pub same_place : (row : List Rule) (buffer : List ℕ) (s : State) → (buffer_state buffer (booked_call row s)).at ≡ s.at
same_place row buffer s = (stays row buffer s).at

-- ---- the loop
abbrev pub turn_held : List Rule → List ScriptCall → Held → Held
turn_held row calls h = (turn_state row calls h.1.0 h.1.1 h.0, (turn_buffer row calls h.1.0 h.1.1 h.0, turn_log row calls h.1.0 h.1.1 h.0))

-- all calls are to be made, and where one is left the log has room for it
abbrev pub Fits : List Rule → List ScriptCall → Held → Type 0
Fits row calls h = (h.0.end ≡ length calls) × (h.0.at < h.0.end → h.0.end ≤ length h.1.1)

abbrev pub left : List Rule → List ScriptCall → Held → ℕ
left row calls h = h.0.end - h.0.at

-- a test that fails
not-less : (i n : ℕ) → T (not (ltb i n)) → n ≤ i
not-less i n = go (ltb i n) refl
  where
    go : (b : Bool) → ltb i n ≡ b → T (not b) → n ≤ i
    go true e t = absurd t
    go false e t = ltb-false i n e

module _ (row : List Rule) (calls : List ScriptCall) (h : Held) where
  turn_at : (turn_held row calls h).0.at ≡ h.0.at + 1
  turn_at = ap (λ (i : ℕ). i + 1) (stays row h.1.0 (took calls h.0)).at

  turn_end : (turn_held row calls h).0.end ≡ h.0.end
  turn_end = (stays row h.1.0 (took calls h.0)).end

  log-length : length (turn_held row calls h).1.1 ≡ length h.1.1
  log-length =
      let s = buffer_state h.1.0 (booked_call row (took calls h.0)) in
      length-set h.1.1 s.at s.told

  pub stops : Fits row calls h → T (not (is_going h.0)) → rest row calls h ≡ h
  stops inv off =
      ap (λ (cs : List ScriptCall). runs row cs h) (drop_of_length-le calls {i = h.0.at} (omega (arith, not-less h.0.at h.0.end off, inv.0)))

  pub turns : Fits row calls h → T (is_going h.0) → rest row calls h ≡ rest row calls (turn_held row calls h)
  turns inv on =
      ap (λ (cs : List ScriptCall). runs row cs h) (drop-cons calls h.0.at no_call (omega (arith, ltb→lt h.0.at h.0.end on, inv.0)))
      ∙ ap (λ (i : ℕ). runs row (drop i calls) (turn_held row calls h)) (sym (turn_at ∙ add-one h.0.at))

  pub falls : Fits row calls h → T (is_going h.0) → left row calls (turn_held row calls h) < left row calls h
  falls inv on = omega (arith, turn_at, turn_end, ltb→lt h.0.at h.0.end on)

  pub keeps : Fits row calls h → T (is_going h.0) → Fits row calls (turn_held row calls h)
  keeps inv on =
      let m : h.0.end ≤ length h.1.1 = inv.1 (ltb→lt h.0.at h.0.end on) in
      (turn_end ∙ inv.0, (λ l. omega (arith, m, turn_end, log-length)))

  -- what a turn requires
  pub fits : Fits row calls h → T (is_going h.0) → (h.0.at < length calls) × (h.0.at < length h.1.1)
  fits inv on =
      let l : h.0.at < h.0.end = ltb→lt h.0.at h.0.end on in
      let m : h.0.end ≤ length h.1.1 = inv.1 l in
      (omega (arith, inv.0), omega arith)

pub begins : (row : List Rule) (calls : List ScriptCall) (buffer log : List ℕ) → Fits row calls (begun (length calls) (length log), (buffer, log))
begins row calls buffer log = go (ltb (length log) (length calls)) refl
  where
    n : ℕ
    n = length calls

    go : (b : Bool) → ltb (length log) n ≡ b → Fits row calls (cond b (started_at n n true) (started_at 0 n false), (buffer, log))
    go true e = (refl, (λ l. absurd (omega (arith, l))))
    go false e = (refl, (λ l. ltb-false (length log) n e))
