-- A line by its words.
use Prim.Native.Nat.{ℕ}
use mathlib.Core.Path.{◌≡◌, sym, ◌∙◌}
use mathlib.Core.Bool.{Bool, true, false}
use mathlib.Core.List.{List, [], ◌∷◌}
use native.Mathlib.Omega.{arith}
use lib.ListN.{length}
use borrow.Author.Tests.{ne_eqb}
use Rattle.std.specs.Bool.{◌==◌}
use Rattle.std.specs.Prelude.{None, Ok, Err}
use Rattle.log_lines.specs.declared.faults.Fault.TheVariants.{NotTwoTimes}
use Rattle.calendar.specs.Revisions.{revision12}
use Rattle.time_text.specs.Times.{utc_time}
use Rattle.log_lines.specs.Lines.{is_text, is_word, take_while, first_word, next_word, is_empty, run_of, as_line, log_line}

-- what a test of the length says of a word
pub emptiness : (s : List ℕ) (b : Bool) → b ≡ (length s == 0) → is_empty s ≡ b
emptiness [] b e = sym e
emptiness (x ∷ s) b e = sym (e ∙ ne_eqb (length (x ∷ s)) 0 (λ q. omega arith))

pub no_word : (line first : List ℕ) → first ≡ first_word (take_while is_text line) → is_empty first ≡ true → Ok None ≡ log_line line
unfolding log_line
no_word line first e z = rw (← e, z)

module _ (line first second : List ℕ) (e : first ≡ first_word (take_while is_text line)) (f : second ≡ next_word first) (n : is_empty first ≡ false) where
  pub one_word : is_empty second ≡ true → Err NotTwoTimes ≡ log_line line
  unfolding log_line
  one_word z = rw (← e, ← f, n, z)

  module _ (third : List ℕ) (g : third ≡ next_word second) (m : is_empty second ≡ false) where
    pub more-words : is_empty third ≡ false → Err NotTwoTimes ≡ log_line line
    unfolding log_line
    more-words h = rw (← e, ← f, ← g, n, m, h)

    pub two-words : is_empty third ≡ true → (from to : List ℕ) → from ≡ take_while is_word first → to ≡ take_while is_word second
        → as_line (run_of (utc_time revision12 from) (utc_time revision12 to)) ≡ log_line line
    unfolding log_line
    two-words z from to p q = rw (← e, ← f, ← g, n, m, z, p, q)
