-- `time_text::times::utc_time` meets its contract: a `Z` at the end, or none.
use mathlib.Core.Path.{sym, ◌∙◌}
use Rattle.time_text.specs.Times.{utc_time}
use Rattle.time_text.proofs.times.Ends.{last_byte}
use Rattle.time_text.proofs.times.utc_time.Goals as goal

pub returns-in-Some : goal.returns-in-Some
unfolding utc_time
returns-in-Some c =
    let e = c.in-Some.ensures.cases in
    rw (sym (last_byte c.args.s.now) ∙ e.0, ← e.1) c.clock_time.ensures

pub returns-in-None : goal.returns-in-None
unfolding utc_time
returns-in-None c = rw (sym (last_byte c.args.s.now) ∙ c.in-None.ensures.cases) c.number_time.ensures
