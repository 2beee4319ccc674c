-- `definition::rules::unused_zero` meets its contract: eight zero bytes and six are fourteen.
use Rattle.std.proofs.Common.{Bool, ◌&&◌, nat_eq, sym, ap, ◌∙◌}
use borrow.Author.Tests.{eq-eqb, ne_eqb}
use Rattle.definition.proofs.rules.Ways.{unused}
use Rattle.definition.proofs.rules.unused_zero.Goals as goal

pub returns-then-low-eq0 : goal.returns-then-low-eq0
returns-then-low-eq0 c =
    ap (λ (b : Bool). b && nat_eq c.read_bytes-high.result 0) (sym (eq-eqb _ _ c.if-low-eq0.true))
    ∙ unused c.args.bytes.now c.args.at _ _ c.requires c.read_bytes-low.ensures.0 c.read_bytes-high.ensures.0

pub returns-else-low-eq0 : goal.returns-else-low-eq0
returns-else-low-eq0 c =
    let e = ne_eqb c.read_bytes-low.result 0 c.if-low-eq0.false in
    rw e
    (ap (λ (b : Bool). b && nat_eq c.read_bytes-high.result 0) (sym e)
    ∙ unused c.args.bytes.now c.args.at _ _ c.requires c.read_bytes-low.ensures.0 c.read_bytes-high.ensures.0)
