-- `hex_text::unhex` meets its contract.
use Prim.Native.Nat.{◌+◌}
use native.Mathlib.Numerals.{add-one}
use native.Mathlib.Omega.{arith}
use mathlib.Core.Path.{◌≡◌, refl, sym, ap, ◌∙◌}
use mathlib.Core.List.{◌∷◌}
use lib.ListN.{drop, get_or, drop_of_length-le}
use lib.Seq.{drop-cons}
use Rattle.hex_text.specs.Hex.{still_read}
use Rattle.hex_text.proofs.HexLaws.{at_first}
use Rattle.hex_text.proofs.unhex.Goals as goal

pub loop-byte-init : goal.loop-byte-init
loop-byte-init c = record {
  same = refl;
  filled = omega arith;
  digit = omega arith;
  left = at_first _ _;
}

pub put_digit-pending-requires : goal.put_digit-pending-requires
put_digit-pending-requires c =
    let r = c.loop-byte.invariant in
    (r.filled, r.digit, c.digit_of.ensures.1)

pub loop-byte-preserved : goal.loop-byte-preserved
loop-byte-preserved c =
    let put = c.put_digit-pending.ensures in
    let l = c.loop-byte in
    let r = l.invariant in
    let text = c.args.text.now in
    let more : drop l.byte-index text ≡ get_or text l.byte-index 0 ∷ drop (l.byte-index + 1) text = rw add-one (drop-cons text l.byte-index 0 (omega arith)) in
    record {
      same = put.2 ∙ r.same;
      filled = put.0;
      digit = put.1;
      left = sym (put.3 (get_or text l.byte-index 0) (drop (l.byte-index + 1) text) (sym c.digit_of.ensures.0)) ∙ ap (still_read l.out l.pending) (sym more) ∙ r.left;
    }

pub returns : goal.returns
returns c =
    let l = c.loop-byte in
    let r = l.invariant in
    let text = c.args.text.now in
    (ap (still_read l.out l.pending) (sym (drop_of_length-le text c.loop-byte-test.false)) ∙ r.left, r.filled, r.same)
