-- `time_text::decimal::up_to` meets its contract: a number that a u64 does not hold is above every limit.
use Prim.Native.Nat.{◌+◌, ◌*◌}
use mathlib.Core.Path.{◌≡◌}
use native.Mathlib.Omega.{arith}
use Rattle.time_text.proofs.decimal.Values.{above, at_most}
use Rattle.time_text.proofs.decimal.up_to.Goals as goal

pub returns-in_err-checked_mul : goal.returns-in_err-checked_mul
returns-in_err-checked_mul c = rw c.from_residual.ensures (above _ _ (omega (arith, c.in_err-checked_mul.ensures)))

pub returns-in_err-number : goal.returns-in_err-number
returns-in_err-number c = rw c.from_residual-in_err-number.ensures (above _ _ (omega (arith, c.in_err-number.ensures, c.in_ok-checked_mul.ensures)))

pub returns-then-most-number : goal.returns-then-most-number
returns-then-most-number c = above _ _ (omega (arith, c.in_ok-checked_mul.ensures, c.in_ok-number.ensures))

pub returns : goal.returns
returns c =
    let a = c.args in
    let e : c.in_ok-number.number ≡ a.value * 10 + a.digit = omega (arith, c.in_ok-checked_mul.ensures, c.in_ok-number.ensures) in
    rw e (at_most _ _ (omega arith))
