-- `time_text::clock::fraction_at` meets its contract: no digits, or those up to the end.
use Prim.Native.Nat.{ℕ, ◌-◌, ◌*◌, ◌^◌}
use mathlib.Core.Path.{ap, ◌∙◌}
use native.Mathlib.Omega.{arith}
use lib.ListN.{length}
use Rattle.time_text.proofs.clock.Meaning.{no_fraction, fraction}
use Rattle.time_text.proofs.clock.fraction_at.Goals as goal

pub returns-then-end-at : goal.returns-then-end-at
returns-then-end-at c =
    let a = c.args in
    (no_fraction a.s.now a.at c.if-end-at.true, omega arith)

pub returns : goal.returns
returns c =
    let a = c.args in
    let d = length a.s.now - a.at in
    (c.in_ticks.ensures.0 ∙ ap (λ (n : ℕ). n * 10 ^ (7 - d)) c.number_at.ensures.0 ∙ fraction a.s.now a.at, c.in_ticks.ensures.1)
