-- `page::Page::put` meets its contract: as much of the text as has room is copied behind the page's own.
use Prim.Native.Nat.{◌+◌}
use mathlib.Core.Path.{ap, ◌∙◌}
use lib.ListN.{take}
use Rattle.page.specs.Pages.{text_of}
use Rattle.page.proofs.PageLaws.{copied_behind}
use borrow.Author.Rules.{rules}
use Rattle.page.proofs.Page.put.Goals as goal

pub returns : goal.returns
unfolding text_of
returns c =
    let self = c.args.self in
    let at = c.min-at in
    let count = c.min-count in
    ap (take (at.result + count.result)) c.copied.ensures
    ∙ copied_behind self.bytes (search rules) self.len c.args.text.now at.result count.result
    (record { start = at.ensures; size = count.ensures })
