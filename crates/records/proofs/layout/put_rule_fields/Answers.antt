-- `records::layout::put_rule_fields` meets its contract: the biases, then the dates.
use mir.ValLaws.{to_z-of_z}
use mir.Syntax.{w32}
use borrow.Author.Rules.{rules}
use Rattle.records.proofs.layout.PutLaws.{put-fields}
use Rattle.records.proofs.layout.put_rule_fields.Goals as goal

pub returns : goal.returns
returns c =
    let a = c.args in
    put-fields a.out.now a.at a.rule
    (rw (
      to_z-of_z w32 a.rule.bias (search rules),
      to_z-of_z w32 a.rule.standard_bias (search rules),
      to_z-of_z w32 a.rule.daylight_bias (search rules),
    )
    at c.put_biases.ensures)
    c.put_date.ensures
    c.put_date-2.ensures
