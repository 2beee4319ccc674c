-- `days::years::leap_year` meets its contract: the code is the definition.
use mathlib.Core.Path.{refl}
use Rattle.days.specs.Years.{leap}
use Rattle.days.proofs.years.leap_year.Goals as goal

pub returns : goal.returns
unfolding leap
returns c = refl
