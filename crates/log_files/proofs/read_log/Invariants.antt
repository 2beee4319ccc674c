-- What was read so far, and how many bytes may still come.
use Rattle.zones.specs.Zones.{row_of}
use Rattle.run_log.specs.Feed.{state_of}
use Rattle.log_files.proofs.TurnLaws.{Going}
use Rattle.log_files.proofs.read_log.Given as goal

abbrev pub invariant-loop-reading : goal.invariant-loop-reading
invariant-loop-reading l = Going (row_of l.zone) (state_of l.initial.reading.job l.initial.carried) (state_of l.reading.job l.carried) 65535 l.carried

abbrev pub decreases-loop-reading : goal.decreases-loop-reading
decreases-loop-reading l = l.reading.left
