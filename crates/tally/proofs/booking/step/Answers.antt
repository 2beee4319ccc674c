-- `tally::booking::step` meets its contract: the walk's year is one of the window's.
use Prim.Native.Nat.{ℕ, min, ◌+◌, ◌≤◌}
use mathlib.Core.Path.{◌≡◌, ap, ◌∙◌}
use native.Mathlib.Omega.{arith}
use Rattle.days.specs.Ticks.{year_tick}
use Rattle.in_force.proofs.shown.WindowLaws.{in_window}
use Rattle.in_force.proofs.stretches.StretchLaws.{before-end}
use Rattle.tally.proofs.WalkLaws.{stepped-is}
use Rattle.tally.proofs.booking.step.Goals as goal

pub overflow_add-next_year : goal.overflow_add-next_year
overflow_add-next_year c =
    let year : (1602 ≤ c.args.walk.year) × (c.args.walk.year ≤ 30827) =
    let w = c.requires.2 in
    let y = in_window c.args.walk.at w.low (omega (arith, w.high, c.requires.3)) in
    let e = w.in_year c.requires.3 in
    (omega (arith, y.0, e), omega (arith, y.1, e)) in
    omega (arith, year.1)

pub year_start-requires : goal.year_start-requires
year_start-requires c =
    let year : (1602 ≤ c.args.walk.year) × (c.args.walk.year ≤ 30827) =
    let w = c.requires.2 in
    let y = in_window c.args.walk.at w.low (omega (arith, w.high, c.requires.3)) in
    let e = w.in_year c.requires.3 in
    (omega (arith, y.0, e), omega (arith, y.1, e)) in
    let s = c in
    (omega (arith, year.0), omega (arith, year.1))

pub add_in_year-totals-requires : goal.add_in_year-totals-requires
add_in_year-totals-requires c =
    let end_is : c.min-end.result ≡ min (year_tick (c.args.walk.year + 1)) c.args.walk.to =
    c.min-end.ensures ∙ ap (λ (n : ℕ). min n c.args.walk.to) c.year_start.ensures.0 in
    let s = c in
    let w = s.requires.2 in
    let e = end_is in
    let b = before-end s.args.walk.at s.args.walk.year (w.in_year s.requires.3) in
    (s.requires.0, s.requires.1, w.low, omega (arith, e, b, s.requires.3), omega (arith, e, w.high), omega (arith, e, w.room, b, s.requires.3))

pub returns : goal.returns
returns c =
    let end_is : c.min-end.result ≡ min (year_tick (c.args.walk.year + 1)) c.args.walk.to =
    c.min-end.ensures ∙ ap (λ (n : ℕ). min n c.args.walk.to) c.year_start.ensures.0 in
    let s = c in
    stepped-is s.args.k s.args.walk c.min-end.result c.add_in_year-totals.result end_is c.add_in_year-totals.ensures
