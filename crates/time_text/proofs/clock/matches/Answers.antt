-- `time_text::clock::matches` meets its contract: the text is not too long, and each byte fits.
use Rattle.std.proofs.Common.{◌∙◌, rules}
use Rattle.std.proofs.lemmas.Iterator.{YieldsList-from_slice, YieldsList-from_zip}
use Rattle.std.proofs.lemmas.Iterator.Search.{all_from_yields_List}
use borrow.Author.Tests.{lt-leb}
use Rattle.time_text.specs.Clock.{fits}
use Rattle.time_text.proofs.clock.Form.{all_fit, too_long}
use Rattle.time_text.proofs.clock.matches.Goals as goal

pub returns-then-s-template : goal.returns-then-s-template
returns-then-s-template c =
    let t = c.args.template.now in
    let s = c.args.s.now in
    all_from_yields_List (λ p. fits p.0 p.1) c.all.new.self _ _ c.all.ensures.ran (YieldsList-from_zip (YieldsList-from_slice t cc) (YieldsList-from_slice s cc)) (λ x b q k. search rules)
    ∙ all_fit t s c.if-s-template.true

pub returns-else-s-template : goal.returns-else-s-template
returns-else-s-template c =
    let t = c.args.template.now in
    let s = c.args.s.now in
    lt-leb _ _ c.if-s-template.false ∙ too_long t s c.if-s-template.false
