-- `page::numbers::count_places` meets its contract. The measure is what is left of the number.
use Prim.Native.Nat.{◌+◌, ◌-◌}
use mathlib.Core.Path.{◌≡◌, sym, ◌∙◌}
use native.Mathlib.Omega.{arith}
use Rattle.page.proofs.NumberLaws.{counting-on, counting-ends, places_is}
use Rattle.page.proofs.numbers.count_places.Goals as goal

pub loop-rest-preserved : goal.loop-rest-preserved
loop-rest-preserved c =
    let l = c.loop-rest in
    let e : 20 - l.count - 1 ≡ 20 - (l.count + 1) = omega arith in
    (l.invariant.0, rw (sym e) (counting-on (20 - l.count) l.invariant.1 c.loop-rest-test.true))

pub returns : goal.returns
returns c =
    let l = c.loop-rest in
    (counting-ends l.invariant.1 c.loop-rest-test.false ∙ sym (places_is _ l.invariant.0), omega arith)
