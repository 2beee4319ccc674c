-- `page::Page::put_blanks` meets its contract: more blanks than fill a page make no difference.
use Prim.Native.Nat.{ℕ}
use mathlib.Core.Path.{ap, ◌∙◌}
use mathlib.Core.List.{List}
use lib.ListN.{take, replicate}
use Rattle.page.specs.Characters.{blank}
use Rattle.page.specs.Pages.{text_of, extended}
use Rattle.page.proofs.PageLaws.{blanks}
use Rattle.page.proofs.Page.put_blanks.Goals as goal

pub returns : goal.returns
returns c =
    let a = c.args in
    let most = c.min-most in
    let all = c.blanks-all in
    c.put.ensures
    ∙ ap (λ (l : List ℕ). extended (text_of a.self) (take most.result l)) all.ensures
    ∙ ap (λ (k : ℕ). extended (text_of a.self) (take k (replicate 1024 blank))) most.ensures
    ∙ blanks (text_of a.self) a.count blank
