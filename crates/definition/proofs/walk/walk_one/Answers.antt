-- `definition::walk::walk_one` meets its contract: refused, skipped or kept, as the rule at that place is.
use mathlib.Core.Path.{sym, ap}
use Rattle.refusal.specs.Outcome.{answered}
use Rattle.definition.proofs.walk.Joined.{walk-skip}
use Rattle.definition.proofs.walk.walk_one.Goals as goal

pub returns-in-Skipped : goal.returns-in-Skipped
returns-in-Skipped c = rw (← c.in_ok-end.ensures, c.in-Skipped.is) (ap answered (sym (walk-skip c.args.w c.in-Skipped.end)))
