-- `zone::rules::check_dates` meets its contract: the tests joined, and what the first that fails is refused with.
use Rattle.zone.proofs.rules.Sound.{joined, sound-passes, unsound-refused}
use mathlib.Core.Path.{sym}
use Rattle.zone.proofs.rules.check_dates.Goals as goal

pub returns-then-sound-biases_ok : goal.returns-then-sound-biases_ok
returns-then-sound-biases_ok c = sym (sound-passes _ (joined c.dates_sound-sound.ensures c.biases_ok.ensures c.if-sound-biases_ok.true))

pub returns : goal.returns
returns c =
    let b = c in
    rw (unsound-refused _ (joined b.dates_sound-sound.ensures b.biases_ok.ensures c.if-sound-biases_ok.false), c.fault.ensures)
