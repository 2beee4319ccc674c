-- `remote_desktop::name_at` meets its contract: 64 bytes copied.
use Prim.Native.Nat.{◌+◌, ◌-◌}
use mathlib.Core.Path.{◌≡◌, ◌∙◌}
use native.Mathlib.Omega.{arith}
use lib.ListN.{length, length-take, length-drop}
use Rattle.little_endian.specs.Fields.{part}
use Rattle.little_endian.proofs.StoredLaws.{stored-whole}
use Rattle.remote_desktop.proofs.name_at.Goals as goal

pub returns : goal.returns
returns c =
    let a = c.args in
    let p = c.requires in
    let e : a.at + 64 - a.at ≡ 64 = omega arith in
    let l : length (part a.s.now a.at 64) ≡ 64 = simp (length-take, length-drop) (omega arith) in
    rw e at c.put_bytes.ensures ∙ stored-whole _ (part a.s.now a.at 64) l
