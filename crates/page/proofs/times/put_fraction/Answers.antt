-- `page::times::put_fraction` meets its contract.
use Prim.Native.Nat.{ℕ, zero, suc}
use mathlib.Core.Path.{◌≡◌, refl, ap, ◌∙◌}
use mathlib.Core.List.{◌++◌}
use Rattle.page.specs.Characters.{point}
use Rattle.page.specs.Numbers.{digits_of}
use Rattle.page.specs.Pages.{text_of, extended}
use Rattle.page.specs.Times.{fraction_text}
use Rattle.page.proofs.PageLaws.{both}
use Rattle.page.proofs.times.put_fraction.Goals as goal

some-ticks : (n : ℕ) → (n ≡ 0 → ⊥) → point ++ digits_of 7 n ≡ fraction_text n
unfolding fraction_text
some-ticks zero h = absurd (h refl)
some-ticks (suc n) h = refl

pub returns-then-ticks-eq0 : goal.returns-then-ticks-eq0
unfolding fraction_text
returns-then-ticks-eq0 c = rw c.if-ticks-eq0.true c.put.ensures

pub returns : goal.returns
returns c =
    both _ _ _ c.put-page.ensures c.put_digits.ensures
    ∙ ap (extended (text_of c.args.page)) (some-ticks c.args.ticks c.if-ticks-eq0.false)
