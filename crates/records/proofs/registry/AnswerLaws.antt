-- What a writing answers, as the code comes to it: the check, the room, then the bytes.
use Prim.Native.Nat.{ℕ, ◌<◌, ◌≤◌}
use mathlib.Core.Path.{◌≡◌, sym, ap, ◌∙◌}
use mathlib.Core.List.{List}
use native.Mathlib.Omega.{arith}
use lib.ListN.{length}
use borrow.Author.Tests.{le-leb, lt-leb}
use Rattle.refusal.specs.Outcome.{Outcome, refused, answered, ◌>>◌}
use Rattle.refusal.specs.Lent.{fitting, written, lent_after}
use Rattle.little_endian.specs.Stored.{stored}
use Rattle.little_endian.proofs.StoredLaws.{stored-front}

abbrev Says : Outcome ℕ → List ℕ → Outcome (List ℕ) → List ℕ → Type 0
Says a after o before = (a ≡ written o) × (after ≡ lent_after o before)

module _ (check : Outcome (Unit {0})) (b out : List ℕ) where
  pub write-refused : {n : ℕ} → check ≡ refused n → Says (refused n) out (check >> fitting b (length out)) out
  write-refused e = (rw e, rw e)

  -- a check that passes leaves the writing
  pub write-passed : {a : Outcome ℕ} {after : List ℕ} → check ≡ answered tt → Says a after (fitting b (length out)) out → Says a after (check >> fitting b (length out)) out
  write-passed e s = rw e s

  pub write-short : {k : ℕ} → check ≡ answered tt → length b ≡ k → length out < k → Says (refused 13) out (check >> fitting b (length out)) out
  write-short e l h =
      let f = lt-leb (length b) (length out) (omega arith) in
      (rw (e, f), rw (e, f))

  pub write_done : {k : ℕ} {after : List ℕ} → check ≡ answered tt → length b ≡ k → k ≤ length out → after ≡ stored out 0 b
      → Says (answered k) after (check >> fitting b (length out)) out
  write_done e l h s =
      let f = le-leb (length b) (length out) (omega arith) in
      (rw (e, f) (ap answered (sym l)), rw (e, f) (s ∙ stored-front out b (omega arith)))
