-- Booking with document 01's test for 19, which document 02's R-7 takes out: it never gives 19, and each of its outcomes is that of the definition without the test.
use Prim.Native.Nat.{ℕ}
use mathlib.Core.Path.{◌≡◌, refl, sym, ap, ◌∙◌}
use mathlib.Core.Bool.{Bool, true, false, not, ◌&&◌}
use mathlib.Core.List.{List}
use lib.Dec.{leb, eqb}
use Rattle.refusal.specs.Outcome.{Outcome, refused, answered, require, ◌>>◌}
use Rattle.days.specs.Counting.{count_among}
use Rattle.days.proofs.Counting.{count_none}
use Rattle.zone.specs.declared.rules.Rule.{Rule}
use Rattle.zone.specs.declared.ticks.UtcTick.{UtcTick}
use Rattle.rows.specs.Row.{check_row}
use Rattle.rows.specs.Search.{has_rule}
use Rattle.local_time.proofs.Number19.{switch_days_exist, row-has-days}
use Rattle.tally.specs.declared.tallies.Tally.{Tally}
use Rattle.tally.specs.Tallies.{at, in_span, holds}
use Rattle.tally.specs.Booking.{check_run, with_run, book}
use Rattle.tally.proofs.Numbers.{book-gives}

-- at every tick from a to before b each switch date of the rule in force has a day in its month
abbrev switch_days_throughout : List Rule → ℕ → ℕ → Bool
switch_days_throughout row a b = eqb (count_among (λ u. not (switch_days_exist row u)) a b) 0

-- 15, 17, 16, 19
abbrev pub check_run19 : List Rule → UtcTick → UtcTick → UtcTick → Outcome (Unit {0})
check_run19 row end a b = do
  require (in_span a && in_span b) 15
  require (leb (at a) (at b) && leb (at end) (at a)) 17
  require (has_rule row (at a)) 16
  require (switch_days_throughout row (at a) (at b)) 19

-- the row's checks, 18, then the run's
abbrev pub book19 : List Rule → Tally → UtcTick → UtcTick → Outcome Tally
book19 row t a b = do
  check_row row
  require (holds t) 18
  check_run19 row t.end a b
  answered (with_run row t a b)

throughout : (row : List Rule) (a b : ℕ) → check_row row ≡ answered tt → switch_days_throughout row a b ≡ true
throughout row a b ok = rw (count_none (λ u. not (switch_days_exist row u)) a b (λ u l h. ap not (row-has-days row u ok)))

last-test : (b : Bool) → (require b 16 >> answered tt) ≡ require b 16
last-test true = refl
last-test false = refl

pub same-run : (row : List Rule) (end a b : UtcTick) → check_row row ≡ answered tt → check_run19 row end a b ≡ check_run row end a b
unfolding check_run
same-run row end a b ok = rw (throughout row (at a) (at b) ok, last-test (has_rule row (at a)))

-- THE LAW: every outcome is the same
pub same-book : (row : List Rule) (t : Tally) (a b : UtcTick) → book19 row t a b ≡ book row t a b
unfolding book
same-book row t a b = go (check_row row) refl
  where
    go : (o : Outcome (Unit {0})) → check_row row ≡ o → book19 row t a b ≡ book row t a b
    go (refused n) e = rw e
    go (answered ok) e = rw (e, same-run row t.end a b e)

-- THE LAW: 19 is never given
pub book-never-19 : (row : List Rule) (t : Tally) (a b : UtcTick) → book19 row t a b ≡ refused 19 → ⊥
book-never-19 row t a b e =
    let q : book row t a b ≡ refused 19 = sym (same-book row t a b) ∙ e in
    rw q at (book-gives row t a b)
