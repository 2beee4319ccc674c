-- `zone::rules::check_rule` meets its contract: the year, then the dates and biases.
use Rattle.refusal.proofs.Tests.{failed, passed}
use Rattle.zone.specs.Rules.{check_rule}
use Rattle.zone.proofs.rules.Sound.{joined, sound-passes, unsound-refused}
use Rattle.zone.proofs.rules.check_rule.Goals as goal

pub returns-then-not-year_fits : goal.returns-then-not-year_fits
unfolding check_rule
returns-then-not-year_fits c = simp (failed c.year_fits.ensures c.if-not-year_fits.true)

pub returns-then-sound-biases_ok : goal.returns-then-sound-biases_ok
unfolding check_rule
returns-then-sound-biases_ok c =
    let y = c in
    let e = joined c.dates_sound-sound.ensures c.biases_ok.ensures c.if-sound-biases_ok.true in
    rw (passed y.year_fits.ensures y.if-not-year_fits.false, sound-passes _ e)

pub returns : goal.returns
unfolding check_rule
returns c =
    let b = c in
    let y = b in
    rw (passed y.year_fits.ensures y.if-not-year_fits.false, unsound-refused _ (joined b.dates_sound-sound.ensures b.biases_ok.ensures c.if-sound-biases_ok.false), c.fault.ensures)
