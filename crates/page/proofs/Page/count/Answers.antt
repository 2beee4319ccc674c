-- `page::Page::count` meets its contract.
use Prim.Native.Nat.{min}
use mathlib.Core.Path.{◌≡◌, sym, ap, ◌∙◌}
use native.Mathlib.Omega.{arith}
use lib.ListN.{length, length-take}
use Rattle.page.specs.Pages.{text_of}
use borrow.Author.Rules.{rules}
use Rattle.page.proofs.Page.count.Goals as goal

pub returns : goal.returns
unfolding text_of
returns c =
    let self = c.args.self in
    let whole : length self.bytes ≡ 1024 = search rules in
    (c.min.ensures ∙ sym (length-take self.len self.bytes ∙ ap (min self.len) whole), omega arith)
