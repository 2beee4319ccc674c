-- `definition::writing::put_rule` meets its contract: the head, then the biases and dates.
use Rattle.definition.proofs.writing.Stored.{put-rule}
use Rattle.definition.proofs.writing.put_rule.Goals as goal

pub returns : goal.returns
returns c =
    let a = c.args in
    put-rule a.out.now a.at _ a.rule _ c.flags_of.ensures c.normal_rule-normal.ensures
    c.put_rule_head.ensures
    c.put_rule_fields.ensures
