-- `calendar::fields::fields_on` meets its contract: each field is small enough for an i16, and is the one that the definition names.
use Prim.Native.Nat.{◌/◌, ◌%◌}
use mathlib.Core.Path.{◌≡◌, ap, sym, ◌∙◌}
use native.Mathlib.Omega.{arith}
use lib.IntN.{pos}
use Rattle.days.specs.declared.dates.Date.{Date}
use Rattle.days.specs.Dates.{date_of, weekday}
use Rattle.days.specs.Ticks.{day, millisecond}
use Rattle.calendar.specs.declared.fields.DayTime.{DayTime}
use Rattle.calendar.specs.Fields.{fields_of}
use Rattle.calendar.proofs.signed.Signs.{back}
use Rattle.calendar.proofs.fields.TimeOfDay.{hour-of, minute-of, second-of, millisecond-of, year-small, month-small, day-small}
use Rattle.calendar.proofs.fields.fields_on.Goals as goal

pub short-requires : goal.short-requires
short-requires c = rw c.requires.2 (omega (arith, year-small c.args.at.days (omega (arith, c.requires.0))))

pub short-requires-2 : goal.short-requires-2
short-requires-2 c = let s = c in rw s.requires.2 (omega (arith, month-small s.args.at.days))

pub short-requires-3 : goal.short-requires-3
short-requires-3 c = let s = c in rw s.requires.2 (omega (arith, day-small s.args.at.days))

pub returns : goal.returns
unfolding fields_of
returns c t e =
    let c8 = c in
    let c7 = c8 in
    let c6 = c7 in
    let c5 = c6 in
    let c4 = c5 in
    let c3 = c4 in
    let c2 = c3 in
    let c1 = c2 in
    let s = c1 in
    let n = s.args.at.days in
    let en : n ≡ t / day = ap (λ (x : DayTime). x.days) (sym e) in
    let em : s.args.at.ms ≡ t % day / millisecond = ap (λ (x : DayTime). x.ms) (sym e) in
    let ed : s.args.date ≡ date_of (t / day) = s.requires.2 ∙ ap date_of en in
    let p1 = back _ _ (c1.short.ensures ∙ ap (λ (x : Date). pos x.year) ed) (omega (arith, year-small (t / day) (omega (arith, s.requires.0)))) in
    let p2 = back _ _ (c2.short-2.ensures ∙ ap (λ (x : Date). pos x.month) ed) (omega (arith, month-small (t / day))) in
    let p3 = back _ _ (c3.short-3.ensures ∙ ap (λ (x : Date). pos x.day) ed) (omega (arith, day-small (t / day))) in
    let p4 = back _ _ (c4.short-4.ensures ∙ ap pos (hour-of t _ em)) (omega arith) in
    let p5 = back _ _ (c5.short-5.ensures ∙ ap pos (minute-of t _ em)) (omega arith) in
    let p6 = back _ _ (c6.short-6.ensures ∙ ap pos (second-of t _ em)) (omega arith) in
    let p7 = back _ _ (c7.short-7.ensures ∙ ap pos (millisecond-of t _ em)) (omega arith) in
    let p8 = back _ _ (c.short-8.ensures ∙ ap pos (c8.weekday_of.ensures ∙ ap weekday en)) (omega arith) in
    λ i. record { year = p1 i; month = p2 i; day = p3 i; hour = p4 i; minute = p5 i; second = p6 i; milliseconds = p7 i; weekday = p8 i }
