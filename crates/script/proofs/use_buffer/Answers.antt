-- `use_buffer` meets its contract: a booking, a saving, a reading.
use Prim.Native.Nat.{ℕ}
use mathlib.Core.Path.{ap, ◌∙◌}
use lib.ListN.{take}
use Rattle.refusal.specs.Outcome.{Outcome}
use Rattle.tally.specs.declared.tallies.Tally.{Tally}
use Rattle.tally.specs.Saved.{read_tally}
use Rattle.script.specs.Steps.{after_reading}
use Rattle.script.proofs.BufferLaws.{record-given, read-state, read-bytes}
use Rattle.script.proofs.use_buffer.Goals as goal

pub returns : goal.returns
returns c =
    let g = c.args in
    let bs = g.buffer.now in
    let s = g.state in
    let e = ap (λ (n : ℕ). take n bs) c.record_length-length.ensures ∙ record-given s.kept bs in
    let r = c.read-answer.ensures.0 ∙ ap read_tally e in
    let zero = c.if-call-eq0.false in
    let one = c.if-call-eq1.false in (
      c.after_reading.ensures ∙ ap (λ (x : Outcome Tally). after_reading x s) r ∙ read-state bs s s.call.kind zero one,
      read-bytes bs s s.call.kind zero one,
    )
