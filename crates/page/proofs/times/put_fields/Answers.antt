-- `page::times::put_fields` meets its contract: no field is negative.
use Prim.Native.Nat.{ℕ}
use mathlib.Core.Path.{◌≡◌, ap, ◌∙◌}
use lib.IntN.{ℤ, pos}
use mir.Val.{to_z, of_z, SFits}
use mir.Syntax.{w16}
use mir.Facts.{to_z-of_z}
use Rattle.calendar.specs.declared.fields.TimeFields.{TimeFields}
use Rattle.calendar.specs.Fields.{fields_of}
use Rattle.calendar.specs.Steps.{part_of}
use Rattle.page.specs.Pages.{text_of, extended}
use Rattle.page.specs.Times.{date_text, hour_text, clock_text}
use Rattle.page.proofs.PageLaws.{both}
use borrow.Author.Rules.{rules}
use Rattle.page.proofs.times.put_fields.Goals as goal

-- a field that is n, kept in an i16 and handed on as its part
kept : (z : ℤ) {n r : ℕ} → r ≡ part_of (to_z w16 (of_z w16 z)) → SFits w16 z → z ≡ pos n → r ≡ n
kept z p h e = p ∙ ap part_of (to_z-of_z h ∙ e)

pub returns : goal.returns
unfolding clock_text fields_of
returns c =
    let a = c.args in
    let f = a.fields in
    let e = c.requires in
    let year = kept f.year c.part.ensures (search rules) (ap (λ (f : TimeFields). f.year) e) in
    let month = kept f.month c.part-2.ensures (search rules) (ap (λ (f : TimeFields). f.month) e) in
    let day = kept f.day c.part-3.ensures (search rules) (ap (λ (f : TimeFields). f.day) e) in
    let hour = kept f.hour c.part-4.ensures (search rules) (ap (λ (f : TimeFields). f.hour) e) in
    let minute = kept f.minute c.part-5.ensures (search rules) (ap (λ (f : TimeFields). f.minute) e) in
    let second = kept f.second c.part-6.ensures (search rules) (ap (λ (f : TimeFields). f.second) e) in
    let date = c.put_date-page.ensures ∙ (λ i. extended (text_of a.page) (date_text (year i) (month i) (day i))) in
    let time = c.put_hour-page.ensures ∙ (λ i. extended (text_of c.put-page.result) (hour_text (hour i) (minute i) (second i))) in
    both _ _ _ (both _ _ _ (both _ _ _ date c.put-page.ensures) time) c.put_fraction.ensures
