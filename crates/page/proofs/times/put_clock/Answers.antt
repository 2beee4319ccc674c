-- `page::times::put_clock` meets its contract: exactly a TIME that is not negative has fields.
use Prim.Native.Nat.{ℕ}
use mathlib.Core.Path.{◌≡◌, refl, sym, ap, ◌∙◌}
use mathlib.Core.Bool.{false}
use native.Mathlib.Omega.{arith}
use borrow.Author.Tests.{le-ltb}
use lib.IntN.{ℤ, pos, negsuc, nat_abs}
use lib.Signed.{lt_z}
use mir.Facts.{to_z-of_z}
use Rattle.refusal.specs.Outcome.{refused, answered}
use Rattle.refusal.specs.Results.{outcome_of}
use Rattle.calendar.specs.declared.fields.TimeFields.{TimeFields}
use Rattle.calendar.specs.Revisions.{revision12}
use Rattle.calendar.specs.Fields.{fields_of, time_to_fields}
use Rattle.page.specs.Characters.{dash}
use Rattle.page.specs.Pages.{text_of, extended}
use Rattle.page.specs.Times.{clock_text, clock_shown}
use Rattle.page.proofs.times.put_clock.Goals as goal

not-below : (t : ℤ) (f : TimeFields) → time_to_fields revision12 t ≡ answered f → lt_z t (pos 0) ≡ false
not-below (pos n) f e = le-ltb n 0 (omega arith)
not-below (negsuc n) f e = cc

fields-are : (t : ℤ) (f : TimeFields) → time_to_fields revision12 t ≡ answered f → f ≡ fields_of (nat_abs t)
fields-are (pos n) f e = cc
fields-are (negsuc n) f e = cc

with-fields : (t : ℤ) (f : TimeFields) → time_to_fields revision12 t ≡ answered f → clock_text (nat_abs t) ≡ clock_shown t
unfolding clock_shown
with-fields (pos n) f e = refl
with-fields (negsuc n) f e = cc

without : (t : ℤ) (k : ℕ) → time_to_fields revision12 t ≡ refused k → clock_shown t ≡ dash
unfolding clock_shown
without (pos n) k e = cc
without (negsuc n) k e = refl

pub returns-in-Ok : goal.returns-in-Ok
returns-in-Ok c =
    let given = ap (time_to_fields revision12) (sym (to_z-of_z c.ranges.time)) ∙ sym c.time_to_fields.ensures ∙ ap outcome_of c.in-Ok.is in
    c.put_fields.ensures
    ∙ ap (extended (text_of c.args.page)) (ap (λ (t : ℤ). clock_text (nat_abs t)) (to_z-of_z c.ranges.time) ∙ with-fields c.args.time _ given)

pub returns-in-Err : goal.returns-in-Err
returns-in-Err c =
    let e = ap (time_to_fields revision12) (sym (to_z-of_z c.ranges.time)) ∙ sym c.time_to_fields.ensures ∙ ap outcome_of c.in-Err.is in
    c.put.ensures ∙ ap (extended (text_of c.args.page)) (sym (without c.args.time _ e))
