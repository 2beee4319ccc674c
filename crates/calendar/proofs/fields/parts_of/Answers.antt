-- `calendar::fields::parts_of` meets its contract, field by field.
use mathlib.Core.Path.{ap, ◌∙◌}
use mir.Syntax.{w16}
use mir.Facts.{to_z-of_z}
use Rattle.calendar.specs.Steps.{part_of, parts_of}
use Rattle.calendar.proofs.fields.parts_of.Goals as goal

pub returns : goal.returns
unfolding parts_of
returns c =
    let c1 = c in
    let c2 = c1 in
    let c3 = c2 in
    let c4 = c3 in
    let c5 = c4 in
    let c6 = c5 in
    let c7 = c6 in
    let c8 = c7 in
    let c9 = c8 in
    let c10 = c9 in
    let c11 = c10 in
    let c12 = c11 in
    let c13 = c12 in
    let f = c13.args.fields in
    let g = c13.struct_told-1.given in
    let p1 = c12.part-year.ensures ∙ ap part_of (to_z-of_z {w = w16} {z = f.year} (record { sfits = g.0.1 })) in
    let p2 = c10.part-month.ensures ∙ ap part_of (to_z-of_z {w = w16} {z = f.month} (record { sfits = g.1.0.1 })) in
    let p3 = c8.part-day.ensures ∙ ap part_of (to_z-of_z {w = w16} {z = f.day} (record { sfits = g.1.1.0.1 })) in
    let p4 = c6.part-hour.ensures ∙ ap part_of (to_z-of_z {w = w16} {z = f.hour} (record { sfits = g.1.1.1.0.1 })) in
    let p5 = c4.part-minute.ensures ∙ ap part_of (to_z-of_z {w = w16} {z = f.minute} (record { sfits = g.1.1.1.1.0.1 })) in
    let p6 = c2.part-second.ensures ∙ ap part_of (to_z-of_z {w = w16} {z = f.second} (record { sfits = g.1.1.1.1.1.0.1 })) in
    let p7 = c.part-milliseconds.ensures ∙ ap part_of (to_z-of_z {w = w16} {z = f.milliseconds} (record { sfits = g.1.1.1.1.1.1.0.1 })) in
    λ i. record { year = p1 i; month = p2 i; day = p3 i; hour = p4 i; minute = p5 i; second = p6 i; milliseconds = p7 i }
