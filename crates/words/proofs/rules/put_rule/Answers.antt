-- `words::rules::put_rule` meets its contract: its head, then its biases.
use Rattle.page.proofs.PageLaws.{both}
use Rattle.words.specs.Rules.{rule_text}
use Rattle.words.proofs.rules.put_rule.Goals as goal

pub returns : goal.returns
unfolding rule_text
returns c = both _ _ _ c.put_head.ensures c.put_biases.ensures
