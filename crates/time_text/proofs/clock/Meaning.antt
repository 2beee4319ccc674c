-- From the form and the numbers of a clock text to its TIME.
use Prim.Native.Nat.{ℕ, ◌+◌, ◌-◌, ◌*◌, ◌^◌, ◌<◌, ◌≤◌}
use mathlib.Core.Path.{◌≡◌, refl, sym, ap}
use mathlib.Core.Bool.{Bool, true, false, cond, ◌&&◌, ◌||◌}
use mathlib.Core.List.{List}
use native.Mathlib.Omega.{arith}
use lib.Dec.{eqb, leb}
use lib.IntN.{ℤ, pos}
use mir.Syntax.{w64}
use lib.ListN.{length, get_or, drop, drop_of_length-le, length-drop}
use borrow.Author.Tests.{le-leb, lt-leb, leb-true, eqb-true, ne_eqb}
use Rattle.refusal.specs.declared.Refusal.TheVariants.{OutOfRange}
use Rattle.refusal.specs.declared.Refusal.{Refusal}
use Rattle.refusal.specs.Number.{number_of}
use Rattle.refusal.proofs.Numbers.{number-back}
use Rattle.refusal.specs.Outcome.{Outcome, refused, answered, require, ◌>>=◌, ◌>>◌}
use Rattle.refusal.specs.Results.{outcome_of}
use Rattle.calendar.specs.Ranges.{within}
use Rattle.calendar.specs.Revisions.{check_revision}
use Rattle.calendar.specs.declared.fields.TimeFields.{TimeFields}
use Rattle.calendar.specs.Fields.{last_time, fields_to_time}
use Rattle.calendar.proofs.ranges.Within.{within-is, is_below}
use Rattle.std.specs.Prelude.{Option, Some, None, Err, SomeIff, FitsSigned, ◌+ℤ◌}
use Rattle.std.specs.Option.{ok_or}
use Rattle.time_text.specs.declared.faults.TextFault.TheVariants.{Refused, NotATime}
use Rattle.time_text.specs.Decimal.{is_digit, value_of}
use Rattle.time_text.specs.Clock.{matches, template, clock_ends, number_at, clock_fields, fraction_ticks, later, clock_outcome, of_outcome, clock_time}
use Rattle.time_text.specs.Steps.{clock_by}
use Rattle.time_text.proofs.number.Signs.{to_end}

-- ---- how long it is
pub ends-within : (w n : ℕ) → clock_ends w n ≡ true → (w + 15 ≤ n) × (n ≤ w + 23)
ends-within w n = by (eqb n (w + 15)) refl
  where
    by : (t : Bool) → eqb n (w + 15) ≡ t → (t || within (w + 17) (w + 23) n) ≡ true → (w + 15 ≤ n) × (n ≤ w + 23)
    by true q e = let h : n ≡ w + 15 = eqb-true n (w + 15) q in (omega arith, omega arith)
    by false q e = let h = within-is (w + 17) (w + 23) n e in (omega arith, omega arith)

pub too_short : (w n : ℕ) → n < w + 15 → clock_ends w n ≡ false
too_short w n h = rw (ne_eqb n (w + 15) (λ e. omega arith)) (sym (is_below (w + 17) (w + 23) n (omega arith)))

-- ---- the fraction
pub no_fraction : (s : List ℕ) (at : ℕ) → length s ≤ at → 0 ≡ fraction_ticks (drop at s)
unfolding fraction_ticks value_of
no_fraction s at h = rw (drop_of_length-le s h)

pub fraction : (s : List ℕ) (at : ℕ) → number_at s at (length s - at) * 10 ^ (7 - (length s - at)) ≡ fraction_ticks (drop at s)
unfolding number_at fraction_ticks
fraction s at = rw (to_end s at, length-drop)

-- ---- the TIME
pub later-by : (n ticks : ℕ) (r : Option ℤ) → SomeIff r (FitsSigned w64 (pos n +ℤ pos ticks)) (pos n +ℤ pos ticks) → outcome_of (ok_or r OutOfRange) ≡ later (pos n) ticks
unfolding later
later-by n ticks (Some t) e = let f : n + ticks < 9223372036854775808 = e.0.sfits in rw (← e.1, le-leb (n + ticks) last_time (omega arith))
later-by n ticks None e = by (leb (n + ticks) last_time) refl
  where
    by : (t : Bool) → leb (n + ticks) last_time ≡ t → refused 15 ≡ (require t 15 >> answered (pos (n + ticks)))
    by true q = let h = leb-true (n + ticks) last_time q in absurd (e (record { sfits = omega arith }))
    by false q = refl

module _ (ρ w : ℕ) (s : List ℕ) where
  pub other-revision : (n : ℕ) → refused n ≡ check_revision ρ → refused n ≡ clock_outcome ρ w s
  unfolding clock_outcome
  other-revision n k = rw (← k)

  module _ (k : answered tt ≡ check_revision ρ) where
    pub late-year : 32767 < number_at s 0 w → refused 15 ≡ clock_outcome ρ w s
    unfolding clock_outcome
    late-year h = rw (← k, lt-leb (number_at s 0 w) 32767 h)

    pub fields-then : (f : TimeFields) → f ≡ clock_fields w s → number_at s 0 w ≤ 32767
        → (fields_to_time ρ f >>= λ t. later t (fraction_ticks (drop (w + 16) s))) ≡ clock_outcome ρ w s
    unfolding clock_outcome
    fields-then f q h = rw (q, ← k, le-leb (number_at s 0 w) 32767 h)

-- a refusal is the fault of a text that has the form of a time
pub text-refused : (why : Refusal) (o : Outcome ℤ) → refused (number_of why) ≡ o → Err (Refused why) ≡ of_outcome o
text-refused why o e = rw (← e) (sym (ap (λ (r : Refusal). Err (Refused r)) (number-back why)))

-- ---- four or five digits
module _ (ρ : ℕ) (s : List ℕ) where
  pub no-clock : length s ≤ 4 → Err NotATime ≡ clock_time ρ s
  unfolding clock_time
  no-clock h = by (is_digit (get_or s 4 0))
    where
      by : (t : Bool) → Err NotATime ≡ cond (clock_ends (cond t 5 4) (length s) && matches (template (cond t 5 4)) s) (of_outcome (clock_outcome ρ (cond t 5 4) s)) (Err NotATime)
      by true = rw (too_short 5 (length s) (omega arith))
      by false = rw (too_short 4 (length s) (omega arith))

  pub five : is_digit (get_or s 4 0) ≡ true → clock_by ρ (template 5) 5 s ≡ clock_time ρ s
  unfolding clock_by clock_time
  five e = rw e

  pub four : is_digit (get_or s 4 0) ≡ false → clock_by ρ (template 4) 4 s ≡ clock_time ρ s
  unfolding clock_by clock_time
  four e = rw e
