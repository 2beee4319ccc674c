-- `page::Page::put_decimal` meets its contract: 20 digits are enough.
use Prim.Native.Nat.{ℕ}
use mathlib.Core.Path.{ap, ◌∙◌}
use native.Mathlib.Nat.{min-eq_left}
use Rattle.page.specs.Pages.{text_of, extended}
use Rattle.page.specs.Numbers.{digits_of, decimal_text}
use Rattle.page.proofs.Page.put_decimal.Goals as goal

pub returns : goal.returns
unfolding decimal_text
returns c =
    let a = c.args in
    let p = c.count_places in
    c.put_digits.ensures ∙ ap (λ (k : ℕ). extended (text_of a.self) (digits_of k a.n)) (min-eq_left p.ensures.1 ∙ p.ensures.0)
