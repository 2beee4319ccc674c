-- A log that is fed in any pieces is booked as the whole of it is.
use Prim.Native.Nat.{ℕ}
use mathlib.Core.Path.{◌≡◌, ap, ◌∙◌}
use mathlib.Core.List.{List, foldl}
use Rattle.zone.specs.declared.rules.Rule.{Rule}
use Rattle.tally.specs.declared.tallies.Tally.{Tally}
use Rattle.run_log.specs.Feed.{Fed, begun, fed, end_of}
use Rattle.run_log.proofs.FeedLaws.{joined, fed-whole, fed-in-pieces}
use Rattle.booking_job.specs.Booked.{open_log, booked}

-- THE EQUATION OF THE TOOL: a log fed in any pieces is booked as the whole of it is
pub booked-in-pieces : (row : List Rule) (room : ℕ) (t : Tally) (pieces : List (List ℕ)) → end_of row (foldl (fed row room) (begun (open_log t)) pieces) ≡ booked row room t (joined pieces)
unfolding booked
booked-in-pieces row room t pieces = fed-in-pieces row room (open_log t) pieces

-- one piece
pub booked-at-once : (row : List Rule) (room : ℕ) (t : Tally) (text : List ℕ) (s : Fed) → s ≡ fed row room (begun (open_log t)) text → end_of row s ≡ booked row room t text
unfolding booked
booked-at-once row room t text s e = ap (end_of row) e ∙ fed-whole row room (open_log t) text
