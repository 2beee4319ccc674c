-- `page::copied` meets its contract.
use Prim.Native.Nat.{◌+◌, ◌-◌}
use mathlib.Core.Path.{◌≡◌}
use mathlib.Core.List.{append_assoc}
use native.Mathlib.Omega.{arith}
use lib.Seq.{drop-drop}
use Rattle.page.proofs.copied.Goals as goal

pub returns : goal.returns
returns c =
    let a = c.args in
    let n : a.at + (a.at + a.count - a.at) ≡ a.at + a.count = omega arith in
    rw (c.copy_from_slice.ensures.after, drop-drop, n, append_assoc)
