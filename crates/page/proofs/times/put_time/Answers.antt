-- `page::times::put_time` meets its contract, by the sign of the TIME.
use mathlib.Core.Path.{◌≡◌, refl, ap, ◌∙◌}
use mathlib.Core.List.{◌++◌}
use lib.IntN.{ℤ, pos, negsuc, nat_abs}
use lib.Signed.{mag}
use mir.Syntax.{w64}
use mir.Facts.{to_z-of_z}
use Rattle.calendar.proofs.signed.Signs.{taken, left}
use Rattle.page.specs.Characters.{letter_z}
use Rattle.page.specs.Pages.{text_of, extended}
use Rattle.page.specs.Times.{clock_shown, time_shown}
use Rattle.page.proofs.PageLaws.{both}
use Rattle.page.proofs.times.put_time.Goals as goal

below : (t : ℤ) → t ≡ negsuc (mag t) → clock_shown t ≡ time_shown t
unfolding clock_shown time_shown
below (pos n) e = cc
below (negsuc n) e = refl

from_zero : (t : ℤ) → t ≡ pos (nat_abs t) → clock_shown t ++ letter_z ≡ time_shown t
unfolding clock_shown time_shown
from_zero (pos n) e = refl
from_zero (negsuc n) e = cc

pub returns-then-time-lt0 : goal.returns-then-time-lt0
returns-then-time-lt0 c =
    let put : text_of c.put_clock-page.result ≡ extended (text_of c.args.page) (clock_shown c.args.time)
    = c.put_clock-page.ensures ∙ ap (λ (t : ℤ). extended (text_of c.args.page) (clock_shown t)) (to_z-of_z c.ranges.time) in
    put ∙ ap (extended (text_of c.args.page)) (below c.args.time (taken w64 c.args.time c.ranges.time c.if-time-lt0.true))

pub returns : goal.returns
returns c =
    let put : text_of c.put_clock-page.result ≡ extended (text_of c.args.page) (clock_shown c.args.time)
    = c.put_clock-page.ensures ∙ ap (λ (t : ℤ). extended (text_of c.args.page) (clock_shown t)) (to_z-of_z c.ranges.time) in
    both _ _ _ put c.put.ensures
    ∙ ap (extended (text_of c.args.page)) (from_zero c.args.time (left w64 c.args.time c.ranges.time c.if-time-lt0.false))
