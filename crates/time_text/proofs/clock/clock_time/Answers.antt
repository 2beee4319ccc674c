-- `time_text::clock::clock_time` meets its contract: no fifth byte, a digit there, or another byte.
use mathlib.Core.Path.{sym, ◌∙◌}
use Rattle.time_text.proofs.clock.Meaning.{no-clock, five, four}
use Rattle.time_text.proofs.clock.clock_time.Goals as goal

pub returns-then-s-le4 : goal.returns-then-s-le4
returns-then-s-le4 c = no-clock _ _ c.if-s-le4.true

pub returns-then-is_digit : goal.returns-then-is_digit
returns-then-is_digit c =
    c.clock_by.ensures ∙ five _ _ (sym c.is_digit.ensures ∙ c.if-is_digit.true)

pub returns : goal.returns
returns c =
    c.clock_by-2.ensures ∙ four _ _ (sym c.is_digit.ensures ∙ c.if-is_digit.false)
