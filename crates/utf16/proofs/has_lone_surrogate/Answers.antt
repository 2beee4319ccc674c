-- `utf16::has_lone_surrogate` meets its contract.
use Prim.Native.Nat.{◌+◌, ◌*◌}
use mathlib.Core.Path.{sym, ap, ◌∙◌}
use mathlib.Core.Bool.{Bool, not, beq}
use native.Mathlib.Omega.{arith}
use Rattle.little_endian.specs.Fields.{part}
use Rattle.utf16.specs.Surrogates.{is_high, is_low, units_of}
use Rattle.utf16.proofs.SurrogateLaws.{found, flag-finds, left, left-next, left-none, found_at, found_after, found-end}
use Rattle.utf16.proofs.has_lone_surrogate.Goals as goal

pub returns-then-is_low-after_high : goal.returns-then-is_low-after_high
returns-then-is_low-after_high c =
    let l = c.loop-i in
    let a = c.args in
    let low = c.is_low.ensures ∙ ap is_low c.read-unit.ensures in
    let u = left-next a.bytes.now a.at a.units l.i c.loop-i-test.true c.requires in
    sym (sym (flag-finds (units_of (part a.bytes.now a.at (2 * a.units)))) ∙ l.invariant
    ∙ found_at l.after_high _ _ _ u (ap (λ (b : Bool). not (beq b l.after_high)) (sym low) ∙ c.if-is_low-after_high.true))

pub loop-i-preserved : goal.loop-i-preserved
loop-i-preserved c =
    let l = c.loop-i in
    let a = c.args in
    let low = c.is_low.ensures ∙ ap is_low c.read-unit.ensures in
    let high = c.is_high-after_high.ensures ∙ ap is_high c.read-unit.ensures in
    let u = left-next a.bytes.now a.at a.units l.i c.loop-i-test.true c.requires in
    l.invariant ∙ found_after l.after_high _ _ _ u (ap (λ (b : Bool). not (beq b l.after_high)) (sym low) ∙ c.if-is_low-after_high.false)
    ∙ ap (λ (b : Bool). found b (left a.bytes.now a.at a.units (l.i + 1))) (sym high)

pub returns : goal.returns
returns c =
    let l = c.loop-i in
    let a = c.args in
    sym (sym (flag-finds (units_of (part a.bytes.now a.at (2 * a.units)))) ∙ l.invariant
    ∙ found-end l.after_high _ (left-none a.bytes.now a.at a.units l.i (omega (arith, c.loop-i-test.false))))
