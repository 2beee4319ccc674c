-- `records::layout::rule_at` meets its contract, field by field.
use mir.ValLaws.{to_z-of_z}
use mir.Syntax.{w32}
use borrow.Author.Rules.{rules}
use Rattle.records.specs.Layout.{rule_at}
use Rattle.records.proofs.layout.rule_at.Goals as goal

pub returns : goal.returns
unfolding rule_at
returns c =
    let b = c.read-bias in
    let s = c.read-standard_bias in
    let d = c.read-daylight_bias in
    rw (
      to_z-of_z w32 b.result (search rules),
      to_z-of_z w32 s.result (search rules),
      to_z-of_z w32 d.result (search rules),
    )
    (simp (b.ensures, s.ensures, d.ensures, c.date_at-standard_date.ensures, c.date_at-daylight_date.ensures))
