-- `definition::rules::read_one` meets its contract: each way out is one law of `Ways`.
use mathlib.Core.Path.{refl}
use Rattle.definition.proofs.rules.Ways.{short-head, short-rule, skipped, kept}
use Rattle.definition.proofs.rules.read_one.Goals as goal

pub returns-then-bytes-at : goal.returns-then-bytes-at
returns-then-bytes-at c = short-head c.args.bytes.now c.args.at c.args.before c.if-bytes-at.true

pub returns-then-bytes-end : goal.returns-then-bytes-end
returns-then-bytes-end c =
    short-rule c.args.bytes.now c.args.at c.args.before c.if-bytes-at.false _ c.read-size.ensures
    c.if-bytes-end.true

pub returns-then-bytes-at-ne2 : goal.returns-then-bytes-at-ne2
returns-then-bytes-at-ne2 c =
    skipped c.args.bytes.now c.args.at c.args.before c.if-bytes-at.false _ c.read-size.ensures
    c.if-bytes-end.false c.if-bytes-at-ne2.true

pub returns : goal.returns
returns c =
    kept c.args.bytes.now c.args.at c.args.before c.if-bytes-at.false _ c.read-size.ensures c.if-bytes-end.false _ refl
    c.if-bytes-at-ne2.false c.read_rule.ensures
