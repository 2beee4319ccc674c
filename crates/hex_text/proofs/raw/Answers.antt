-- `hex_text::raw` meets its contract: the text is stored at the front.
use Prim.Native.Nat.{◌≤◌}
use mathlib.Core.Path.{ap, ◌∙◌}
use native.Mathlib.Omega.{arith}
use lib.ListN.{length}
use Rattle.std.proofs.lemmas.Option.{same_Some}
use Rattle.little_endian.proofs.StoredLaws.{length-stored}
use Rattle.hex_text.proofs.HexLaws.{stored-text}
use Rattle.hex_text.proofs.raw.Goals as goal

pub returns : goal.returns
returns c =
    let put = c.put_bytes.ensures in
    let a = c.args in
    let l : length a.text.now ≤ length a.out.now = omega arith in
    let same = ap length put ∙ length-stored a.out.now 0 a.text.now in
    (stored-text a.text.now a.out.now _ l put, λ len e. omega (arith, same, same_Some _ _ e), same)
