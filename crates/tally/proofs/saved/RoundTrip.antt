-- Reading the saved record of a tally that holds gives the tally.
use Prim.Native.Nat.{ℕ, ◌+◌, ◌-◌, ◌*◌, ◌^◌, ◌<◌, ◌≤◌}
use mathlib.Core.Path.{◌≡◌, refl, sym, ap, ◌∙◌, subst}
use mathlib.Core.Bool.{true}
use mathlib.Core.List.{[], ◌∷◌, ◌++◌}
use native.Mathlib.Omega.{arith}
use lib.IntN.{pos}
use lib.ListN.{length, get_or, replicate}
use mir.Syntax.{w64}
use Rattle.refusal.specs.Outcome.{answered}
use Rattle.little_endian.specs.Bytes.{from_bytes, to_bytes}
use Rattle.little_endian.specs.TwosComplement.{signed, unsigned}
use Rattle.little_endian.specs.Fields.{unsigned_at}
use Rattle.little_endian.proofs.ByteLaws.{from-to}
use Rattle.little_endian.proofs.TwosComplementLaws.{signed_back}
use Rattle.totals.specs.Totals.{sum}
use Rattle.totals.proofs.TableLaws.{table_is}
use Rattle.zone.specs.Ticks.{window_start, utc_tick}
use Rattle.tally.specs.declared.tallies.Tally.{Tally}
use Rattle.tally.specs.Tallies.{seven, fresh, at, holds}
use Rattle.tally.specs.Saved.{total_bytes, totals_at, record_of, recorded, readable, read_tally}
use Rattle.tally.proofs.tallies.HoldingLaws.{positive, holding}

-- the fresh tally's record, as document 01 has it
pub fresh-record : record_of fresh ≡ (0x42 ∷ 0x00 ∷ 0x01 ∷ 0x00 ∷ 0x00 ∷ 0xC0 ∷ 0xC6 ∷ 0x78 ∷ 0xD1 ∷ 0x1E ∷ 0x01 ∷ 0x00 ∷ []) ++ replicate 56 0
unfolding record_of total_bytes to_bytes unsigned fresh
fresh-record = refl

-- a tally by its end and its totals
abbrev made : ℕ → (ℕ → ℕ) → Tally
made n f = record { end = utc_tick n; totals = seven f }

shape : (t : Tally) → length t.totals ≡ 7 → window_start ≤ at t.end → t ≡ made (at t.end) (λ w. get_or t.totals w 0)
shape t l h = λ i. record { end = record { 0 = positive t.end.0 h i }; totals = table_is 7 t.totals l i }

seven-path : (f g : ℕ → ℕ) → f 0 ≡ g 0 → f 1 ≡ g 1 → f 2 ≡ g 2 → f 3 ≡ g 3 → f 4 ≡ g 4 → f 5 ≡ g 5 → f 6 ≡ g 6 → seven f ≡ seven g
seven-path f g a b c d e h k = λ i. a i ∷ b i ∷ c i ∷ d i ∷ e i ∷ h i ∷ k i ∷ []

-- the fields of a record are the bytes that were put there: antt computes the places
again : (n : ℕ) (f : ℕ → ℕ) → n < 2 ^ 63 → sum (seven f) < 2 ^ 64 → recorded (record_of (made n f)) ≡ made n f
unfolding recorded unsigned_at record_of total_bytes to_bytes unsigned
again n f a b =
    let x : from_bytes (to_bytes 8 n) ≡ n = from-to 8 n (omega arith) in
    let y : signed 8 (from_bytes (to_bytes 8 n)) ≡ pos n = ap (signed 8) x ∙ signed_back w64 (pos n) (record { sfits = a }) in
    let es : totals_at (record_of (made n f)) ≡ seven f =
    seven-path (λ w. unsigned_at (record_of (made n f)) (12 + 8 * w) 8) f
    (from-to 8 (f 0) (omega arith))
    (from-to 8 (f 1) (omega arith))
    (from-to 8 (f 2) (omega arith))
    (from-to 8 (f 3) (omega arith))
    (from-to 8 (f 4) (omega arith))
    (from-to 8 (f 5) (omega arith))
    (from-to 8 (f 6) (omega arith)) in
    λ i. record { end = record { 0 = y i }; totals = es i }

readable-made : (n : ℕ) (f : ℕ → ℕ) → recorded (record_of (made n f)) ≡ made n f → readable (record_of (made n f)) ≡ holds (made n f)
unfolding readable unsigned_at record_of total_bytes to_bytes from_bytes
readable-made n f e = ap holds e

module _ (t : Tally) (l : length t.totals ≡ 7) (h : holds t ≡ true) where
  copy : Tally
  copy = made (at t.end) (λ w. get_or t.totals w 0)

  copied : t ≡ copy
  unfolding copy
  copied = shape t l (holding t h).span.start

  copy-again : recorded (record_of copy) ≡ copy
  unfolding copy
  copy-again =
      let s = holding t h in
      let w = s.span in
      let le : sum copy.totals ≤ at t.end - window_start = subst (λ (x : Tally). sum x.totals ≤ at t.end - window_start) copied s.spent in
      again (at t.end) (λ w. get_or t.totals w 0) (omega arith) (omega arith)

  pub recorded-again : recorded (record_of t) ≡ t
  recorded-again = ap (λ (x : Tally). recorded (record_of x)) copied ∙ copy-again ∙ sym copied

  pub readable-again : readable (record_of t) ≡ true
  unfolding copy
  readable-again =
      ap (λ (x : Tally). readable (record_of x)) copied
      ∙ readable-made (at t.end) (λ w. get_or t.totals w 0) copy-again
      ∙ ap holds (sym copied)
      ∙ h

  -- THE LAW: reading the saved record of a tally that holds gives the tally
  pub round_trip : read_tally (record_of t) ≡ answered t
  unfolding read_tally
  round_trip = rw (readable-again, recorded-again)
