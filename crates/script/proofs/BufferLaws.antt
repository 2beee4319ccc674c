-- What a reading is given of the buffer, and the calls that are neither booking nor saving.
use mathlib.Core.Path.{◌≡◌, refl, sym, ◌∙◌}
use mathlib.Core.Bool.{Bool, true, false, cond}
use mathlib.Core.List.{List}
use Prim.Native.Nat.{ℕ, zero, suc, ◌≤◌}
use native.Mathlib.Omega.{arith}
use lib.Dec.{ltb}
use lib.ListN.{length, take}
use lib.Seq.{take_all}
use borrow.Author.Tests.{ltb-true, ltb-false}
use Rattle.tally.specs.Saved.{read_tally}
use Rattle.script.specs.declared.State.{State}
use Rattle.script.specs.Scripts.{record_in}
use Rattle.script.specs.Steps.{after_reading, record_length, state_of_kind, bytes_of_kind}

pub record-fits : (kept : Bool) (n : ℕ) → record_length kept n ≤ n
record-fits false n = omega arith
record-fits true n = go (ltb n 68) refl
  where
    go : (b : Bool) → ltb n 68 ≡ b → cond b n 68 ≤ n
    go true e = omega arith
    go false e = ltb-false n 68 e

pub record-given : (kept : Bool) (buffer : List ℕ) → take (record_length kept (length buffer)) buffer ≡ record_in buffer kept
record-given false buffer = refl
record-given true buffer = go (ltb (length buffer) 68) refl
  where
    go : (b : Bool) → ltb (length buffer) 68 ≡ b → take (cond b (length buffer) 68) buffer ≡ take 68 buffer
    go true e = take_all (length buffer) buffer (omega arith) ∙ sym (take_all 68 buffer (omega (arith, ltb-true (length buffer) 68 e)))
    go false e = refl

module _ (buffer : List ℕ) (s : State) where
  pub read-state : (k : ℕ) → (k ≡ 0 → ⊥) → (k ≡ 1 → ⊥) → after_reading (read_tally (record_in buffer s.kept)) s ≡ state_of_kind k buffer s
  read-state zero e f = absurd (e refl)
  read-state (suc zero) e f = absurd (f refl)
  read-state (suc (suc n)) e f = refl

  pub read-bytes : (k : ℕ) → (k ≡ 0 → ⊥) → (k ≡ 1 → ⊥) → buffer ≡ bytes_of_kind k buffer s
  read-bytes zero e f = absurd (e refl)
  read-bytes (suc zero) e f = absurd (f refl)
  read-bytes (suc (suc n)) e f = refl
