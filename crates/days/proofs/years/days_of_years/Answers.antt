-- `days::years::days_of_years` meets its contract, by the closed form of the sum over years.
use mathlib.Core.Path.{sym}
use native.Mathlib.Omega.{arith}
use Rattle.days.proofs.years.Closed.{closed, years-closed}
use Rattle.days.proofs.years.days_of_years.Goals as goal

pub returns : goal.returns
unfolding closed
returns c = (sym (years-closed c.args.k), omega arith)
