-- `time_text::clock::later` meets its contract, by the sign of the TIME.
use mir.Syntax.{w64}
use mir.Facts.{to_z-of_z}
use Rattle.std.specs.Prelude.{FitsSigned}
use Rattle.calendar.proofs.signed.Signs.{left, taken}
use Rattle.time_text.specs.Clock.{later}
use Rattle.time_text.proofs.clock.Meaning.{later-by}
use Rattle.time_text.proofs.clock.later.Goals as goal

pub returns-then-time-lt0 : goal.returns-then-time-lt0
unfolding later
returns-then-time-lt0 c = rw (taken w64 c.args.time c.ranges.time c.if-time-lt0.true)

pub returns : goal.returns
returns c =
    let t = left w64 c.args.time c.ranges.time c.if-time-lt0.false in
    let f : FitsSigned w64 c.from.result = record { sfits = c.from.type_inv } in
    rw (c.ok_or.ensures.value, t) (later-by _ _ _ (rw (to_z-of_z c.ranges.time, to_z-of_z f, c.from.ensures, t) at c.checked_add.ensures))
