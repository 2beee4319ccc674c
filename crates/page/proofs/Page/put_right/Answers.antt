-- `page::Page::put_right` meets its contract: blanks, and the number.
use Prim.Native.Nat.{ℕ, ◌-◌}
use mathlib.Core.Path.{ap, ◌∙◌}
use lib.ListN.{replicate}
use Rattle.page.specs.Characters.{blank}
use Rattle.page.specs.Pages.{text_of, extended}
use Rattle.page.specs.Numbers.{right_text}
use Rattle.page.proofs.PageLaws.{both}
use Rattle.page.proofs.Page.put_right.Goals as goal

pub returns : goal.returns
unfolding right_text
returns c =
    let a = c.args in
    let blanks = c.put_blanks-page in
    let left = c.saturating_sub in
    let width = left.ensures ∙ ap (λ (p : ℕ). a.width - p) c.count_places.ensures.0 in
    both _ _ _
    (blanks.ensures ∙ ap (λ (k : ℕ). extended (text_of a.self) (replicate k blank)) width)
    c.put_decimal.ensures
