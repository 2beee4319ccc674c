-- What inner functions are handed and give. No public contract rests on these.
use Rattle.std.specs.Prelude.{ℕ, cond, ◌&&◌, List, length, leb, ℤ, Option, Some, None, Result, Err}
use Rattle.time_text.specs.declared.faults.TextFault.{TextFault}
use Rattle.time_text.specs.declared.faults.TextFault.TheVariants.{NotATime}
use Rattle.time_text.specs.Decimal.{is_digit, with_digit}
use Rattle.time_text.specs.Clock.{clock_ends, matches, of_outcome, clock_outcome}

-- a number that is at most the limit
unfoldable pub up_to : ℕ → ℕ → Option ℕ
up_to most n = cond (leb n most) (Some n) None

-- a number with the digit that a byte is behind it
unfoldable pub next_value : ℕ → ℕ → ℕ → Option ℕ
next_value most n b = cond (is_digit b) (up_to most (with_digit n b)) None

-- a clock text by a template whose year has w digits
unfoldable pub clock_by : ℕ → List ℕ → ℕ → List ℕ → Result ℤ TextFault
clock_by ρ t w s = cond (clock_ends w (length s) && matches t s) (of_outcome (clock_outcome ρ w s)) (Err NotATime)
