-- `page::Page::put_left` meets its contract: the text, and blanks.
use Prim.Native.Nat.{ℕ}
use mathlib.Core.Path.{ap, ◌∙◌}
use lib.ListN.{replicate}
use Rattle.page.specs.Characters.{blank}
use Rattle.page.specs.Pages.{text_of, extended, left_text}
use Rattle.page.proofs.PageLaws.{both}
use Rattle.page.proofs.Page.put_left.Goals as goal

pub returns : goal.returns
unfolding left_text
returns c =
    both _ _ _
    c.put-page.ensures
    (c.put_blanks.ensures ∙ ap (λ (k : ℕ). extended (text_of c.put-page.result) (replicate k blank)) c.saturating_sub.ensures)
