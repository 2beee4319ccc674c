-- `definition::walk::walk_on` meets its contract: the walk past one kept rule, field by field.
use Rattle.std.proofs.Common.{◌≡◌, ◌+◌, Bool, true, false, cond, refl}
use mir.Val.{bool_byte}
use Rattle.rows.specs.Row.{active_rules}
use Rattle.definition.specs.Steps.{walk_over}
use Rattle.definition.proofs.walk.walk_on.Goals as goal

one-counted : (active : Bool) → bool_byte active ≡ cond active 1 0 + 0
one-counted true = refl
one-counted false = refl

pub returns-then-w : goal.returns-then-w
unfolding walk_over active_rules
returns-then-w c = rw (c.from.ensures, one-counted c.args.k.rule.active, c.if-w.true)

pub returns-else-w : goal.returns-else-w
unfolding walk_over active_rules
returns-else-w c = rw (c.from.ensures, one-counted c.args.k.rule.active, c.if-w.false)
