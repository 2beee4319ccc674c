-- `time_text::decimal::decimal` meets its contract. The loop's invariant: `value` is the number of the bytes before the index, and what is left decides.
use mathlib.Core.Path.{sym}
use native.Mathlib.Omega.{arith}
use borrow.Author.Tests.{eqb-true}
use Rattle.std.proofs.lemmas.Bool.{eqb-false}
use Rattle.time_text.proofs.decimal.Values.{none, begins, next, stopped, ends}
use Rattle.time_text.proofs.decimal.decimal.Goals as goal

pub returns-then-is_empty : goal.returns-then-is_empty
returns-then-is_empty c = none _ _ (eqb-true _ _ (sym c.if-is_empty.ensures))

pub loop-byte-init : goal.loop-byte-init
loop-byte-init c = begins _ _ (eqb-false _ _ (sym c.if-is_empty.ensures))

pub returns-in_err-value : goal.returns-in_err-value
returns-in_err-value c = rw c.from_residual.ensures (stopped c.loop-byte.invariant (omega arith) (sym c.in_err-value.ensures))

pub loop-byte-preserved : goal.loop-byte-preserved
loop-byte-preserved c = next c.loop-byte.invariant (omega arith) (sym c.in_ok-value.ensures)

pub returns : goal.returns
returns c = ends c.loop-byte.invariant (omega arith)
