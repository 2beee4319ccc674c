-- `words::units::put_unit` meets its contract, by the two bytes.
use mathlib.Core.Path.{sym, ◌∙◌}
use borrow.Author.Tests.{eq-eqb, ne_eqb}
use Rattle.page.proofs.PageLaws.{nothing}
use Rattle.words.specs.Units.{unit_text}
use borrow.Author.Rules.{rules}
use Rattle.words.proofs.units.put_unit.Goals as goal

pub returns-then-high-ne0 : goal.returns-then-high-ne0
unfolding unit_text
returns-then-high-ne0 c = rw (ne_eqb _ 0 c.if-high-ne0.true) c.put.ensures

pub returns-then-low-eq0 : goal.returns-then-low-eq0
unfolding unit_text
returns-then-low-eq0 c = rw (eq-eqb _ 0 c.if-high-ne0.false, eq-eqb _ 0 c.if-low-eq0.true) (sym (nothing _ (search rules)))

pub returns-then-is_shown : goal.returns-then-is_shown
unfolding unit_text
returns-then-is_shown c =
    rw (eq-eqb _ 0 c.if-high-ne0.false, ne_eqb _ 0 c.if-low-eq0.false, sym c.is_shown.ensures ∙ c.if-is_shown.true)
    c.put-then-is_shown.ensures

pub returns : goal.returns
unfolding unit_text
returns c =
    rw (eq-eqb _ 0 c.if-high-ne0.false, ne_eqb _ 0 c.if-low-eq0.false, sym c.is_shown.ensures ∙ c.if-is_shown.false)
    c.put-2.ensures
