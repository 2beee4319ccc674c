-- What the loop keeps.
use Prim.Native.Nat.{◌≤◌}
use mathlib.Core.Path.{◌≡◌}
use lib.ListN.{length}
use Rattle.zones.specs.Zones.{row_of}
use Rattle.run_log.specs.Feed.{fed, state_of}
use Rattle.run_log.proofs.feed.Given as goal

abbrev pub invariant-loop-line : goal.invariant-loop-line
invariant-loop-line l = (l.job.len ≤ length l.bytes) × (length l.bytes ≡ length l.initial.bytes) × (fed (row_of l.zone) (length l.initial.bytes) (state_of l.job l.bytes) l.line-iterator.rest.now ≡ fed (row_of l.zone) (length l.initial.bytes) (state_of l.initial.job l.initial.bytes) l.piece)
