-- `writing::put_rules` meets its contract: there is room for each rule that is to come, and each is written behind those before it.
use Rattle.std.proofs.Common.{◌≡◌, ℕ, suc, ◌+◌, ◌<◌, List, length, drop, get_or, ◌∙◌, arith, add-one, drop-cons}
use lib.ListN.{drop_of_length-le}
use Rattle.little_endian.specs.Stored.{stored}
use Rattle.zone.specs.declared.rules.Rule.{Rule}
use Rattle.definition.specs.Definition.{rule_bytes, rules_bytes}
use Rattle.definition.proofs.writing.Stored.{rules-step}
use Rattle.definition_rows.proofs.writing.put_rules.Goals as goal

pub put_rule-requires : goal.put_rule-requires
put_rule-requires c = omega (arith, c.loop-rule.invariant.place)

-- one rule more
put-more : (s : List ℕ) (at : ℕ) (row : List Rule) (i : ℕ) (d : Rule) {a : List ℕ} → i < length row → a ≡ stored s at (rule_bytes (get_or row i d))
    → stored a (at + 66) (rules_bytes (drop (i + 1) row)) ≡ stored s at (rules_bytes (drop i row))
put-more s at row i d l e = rw (add-one i, drop-cons row i d) (rules-step s at (get_or row i d) (drop (suc i) row) e)

pub loop-rule-preserved : goal.loop-rule-preserved
loop-rule-preserved c =
    let l = c.loop-rule in
    let inv = l.invariant in
    record {
      place = omega (arith, inv.place);
      left = put-more l.out l.at c.args.row.now l.rule-index _ c.loop-rule-test.true c.put_rule.ensures ∙ inv.left;
    }

pub returns : goal.returns
unfolding stored rules_bytes
returns c =
    let inv = c.loop-rule.invariant in
    rw (drop_of_length-le c.args.row.now {i = c.loop-rule.rule-index} c.loop-rule-test.false) at inv.left
