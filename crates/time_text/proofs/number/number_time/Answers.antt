-- `time_text::number::number_time` meets its contract: a sign in front, or none.
use mathlib.Core.Path.{sym, ◌∙◌}
use Rattle.time_text.specs.Number.{number_time}
use Rattle.time_text.proofs.number.Signs.{first_byte}
use Rattle.time_text.proofs.number.number_time.Goals as goal

pub returns-in-Some : goal.returns-in-Some
unfolding number_time
returns-in-Some c =
    let e = c.in-Some.ensures.cases in
    rw (sym (first_byte c.args.s.now) ∙ e.0, ← e.1) c.below_zero.ensures

pub returns-in-None : goal.returns-in-None
unfolding number_time
returns-in-None c = rw (sym (first_byte c.args.s.now) ∙ c.in-None.ensures.cases) c.from_zero.ensures
