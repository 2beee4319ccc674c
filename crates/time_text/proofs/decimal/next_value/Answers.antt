-- `time_text::decimal::next_value` meets its contract: the byte is a digit, or not.
use Rattle.refusal.proofs.Tests.{failed, passed}
use Rattle.time_text.specs.Steps.{next_value}
use Rattle.time_text.proofs.decimal.next_value.Goals as goal

pub returns-then-not-is_digit : goal.returns-then-not-is_digit
unfolding next_value
returns-then-not-is_digit c = rw (failed c.is_digit.ensures c.if-not-is_digit.true)

pub returns : goal.returns
unfolding next_value
returns c = rw (passed c.is_digit.ensures c.if-not-is_digit.false, ← c.from.ensures) c.up_to.ensures
