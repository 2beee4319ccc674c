-- `tally::booking::walk_on` meets its contract: each step leaves the end as it is.
use Rattle.std.proofs.Common.{refl, sym, ◌∙◌, arith}
use Rattle.in_force.proofs.shown.WindowLaws.{in_window}
use Rattle.rows.proofs.YearLaws.{standard-range, daylight-range}
use Rattle.tally.proofs.WalkLaws.{turned-is, keeps_on, falls-on, stops_at}
use Rattle.tally.proofs.booking.walk_on.Goals as goal

pub loop-walk-init : goal.loop-walk-init
loop-walk-init c = record { walking = c.requires; same = refl }

pub year_in_force-requires : goal.year_in_force-requires
year_in_force-requires c =
    let w = c.loop-walk.invariant.walking in
    let y = in_window c.loop-walk.walk.at w.low (omega (arith, w.high, c.loop-walk-test.true)) in
    let e = w.in_year c.loop-walk-test.true in
    (omega (arith, y.0, e), omega (arith, y.1, e))

pub step-walk-requires : goal.step-walk-requires
step-walk-requires c =
    let row = c.args.row in
    let year = c.loop-walk.walk.year in (
      rw c.year_in_force.ensures (standard-range row.rules.now row.accepted year),
      rw c.year_in_force.ensures (daylight-range row.rules.now row.accepted year),
      c.loop-walk.invariant.walking,
      c.loop-walk-test.true,
    )

pub loop-walk-smaller : goal.loop-walk-smaller
loop-walk-smaller c =
    let row = c.args.row in
    rw (c.step-walk.ensures, c.year_in_force.ensures) (falls-on row.rules.now row.accepted c.loop-walk.walk c.loop-walk.invariant.walking c.loop-walk-test.true)

pub loop-walk-preserved : goal.loop-walk-preserved
loop-walk-preserved c =
    let row = c.args.row in
    let w = c.loop-walk.walk in
    let walking = c.loop-walk.invariant.walking in
    let on = c.loop-walk-test.true in
    rw (c.step-walk.ensures, c.year_in_force.ensures)
    (record { walking = keeps_on row.rules.now row.accepted w walking on; same = sym (turned-is row.rules.now row.accepted w walking on) ∙ c.loop-walk.invariant.same })

pub returns : goal.returns
returns c = sym (stops_at c.args.row.rules.now c.loop-walk.walk c.loop-walk.invariant.walking c.loop-walk-test.false) ∙ c.loop-walk.invariant.same
