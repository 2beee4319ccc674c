-- `page::Page::blank` meets its contract: no bytes are text.
use mathlib.Core.Path.{refl}
use Rattle.page.specs.Pages.{text_of}
use Rattle.page.proofs.Page.blank.Goals as goal

pub returns : goal.returns
unfolding text_of
returns c = refl
