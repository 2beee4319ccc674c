-- `hex_text::put_digit` meets its contract, return by return.
use mathlib.Core.Path.{refl, sym, ◌∙◌}
use native.Mathlib.Omega.{arith}
use lib.ListN.{length-set}
use borrow.Author.Tests.{not-true, not-false, ne_eqb}
use Rattle.hex_text.proofs.HexLaws.{nothing-more, not-hex, gap, first-digit, no_room, second-digit}
use Rattle.hex_text.proofs.put_digit.Goals as goal

pub returns-then-not-pending : goal.returns-then-not-pending
returns-then-not-pending c =
    let a = c.args in
    let h = not-true a.pending.sound c.if-not-pending.true in
    (c.requires.0, c.requires.1, refl, λ b rest e. nothing-more a.out.now a.pending _ h ∙ sym (nothing-more a.out.now a.pending rest h))

pub returns-then-digit-eq17 : goal.returns-then-digit-eq17
returns-then-digit-eq17 c =
    let a = c.args in
    let u = c.unsound.ensures in
    (omega (arith, u.1), omega (arith, u.2), refl, λ b rest e. not-hex a.out.now a.pending b rest (e ∙ c.if-digit-eq17.true) ∙ sym (nothing-more a.out.now c.unsound.result rest u.0))

pub returns-then-digit-eq16 : goal.returns-then-digit-eq16
returns-then-digit-eq16 c =
    let a = c.args in
    (c.requires.0, c.requires.1, refl, λ b rest e. gap a.out.now a.pending b rest (e ∙ c.if-digit-eq16.true))

pub returns-then-pending-eq16 : goal.returns-then-pending-eq16
returns-then-pending-eq16 c =
    let a = c.args in
    (c.requires.0, omega arith, refl, λ b rest e. first-digit a.out.now a.pending b rest a.digit e (ne_eqb _ _ c.if-digit-eq17.false) (ne_eqb _ _ c.if-digit-eq16.false) (not-false _ c.if-not-pending.false) c.if-pending-eq16.true)

pub returns-then-len-out : goal.returns-then-len-out
returns-then-len-out c =
    let a = c.args in
    let r = c.unsound-then-len-out.ensures in
    (omega (arith, r.1), omega (arith, r.2), refl, λ b rest e. no_room a.out.now a.pending b rest a.digit e (ne_eqb _ _ c.if-digit-eq17.false) (ne_eqb _ _ c.if-digit-eq16.false) (ne_eqb _ _ c.if-pending-eq16.false) c.if-len-out.true ∙ sym (nothing-more a.out.now c.unsound-then-len-out.result rest r.0))

pub returns : goal.returns
returns c =
    let a = c.args in
    (simp length-set (omega arith), omega arith, simp length-set, λ b rest e. second-digit a.out.now a.pending b rest a.digit e (ne_eqb _ _ c.if-digit-eq17.false) (ne_eqb _ _ c.if-digit-eq16.false) (ne_eqb _ _ c.if-pending-eq16.false) (not-false _ c.if-not-pending.false) (omega arith))
