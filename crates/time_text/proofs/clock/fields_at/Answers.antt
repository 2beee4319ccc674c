-- `time_text::clock::fields_at` meets its contract: each number is small enough for an i16.
use mathlib.Core.Path.{ap, ◌∙◌}
use lib.IntN.{pos}
use Rattle.calendar.proofs.signed.Signs.{back}
use Rattle.time_text.specs.Clock.{clock_fields}
use Rattle.time_text.proofs.clock.Numbers.{two}
use Rattle.time_text.proofs.clock.fields_at.Goals as goal

pub returns : goal.returns
unfolding clock_fields
returns c =
    let n1 = c.number_at.ensures.0 in
    let p1 = back _ _ (c.short.ensures ∙ ap pos n1) c.requires.2 in
    let p2 = two _ _ _ c.short-2.ensures c.number_at-2.ensures in
    let p3 = two _ _ _ c.short-3.ensures c.number_at-3.ensures in
    let p4 = two _ _ _ c.short-4.ensures c.number_at-4.ensures in
    let p5 = two _ _ _ c.short-5.ensures c.number_at-5.ensures in
    let p6 = two _ _ _ c.short-6.ensures c.number_at-6.ensures in
    λ i. record { year = p1 i; month = p2 i; day = p3 i; hour = p4 i; minute = p5 i; second = p6 i; milliseconds = pos 0; weekday = pos 0 }
