-- `Tally::save` meets its contract: the tally, the room, then the bytes.
use mathlib.Core.Path.{◌≡◌, refl, ap}
use borrow.Author.Rules.{rules}
use lib.ListN.{length}
use mir.Syntax.{w64}
use mir.Val.{SFits}
use mir.Facts.{to_z-of_z}
use borrow.Author.Tests.{not-true, not-false}
use Rattle.refusal.specs.Outcome.{require}
use Rattle.refusal.proofs.Tests.{failed, passed}
use Rattle.records.proofs.registry.AnswerLaws.{write-refused, write-short, write_done}
use Rattle.tally.specs.declared.tallies.Held.{Held}
use Rattle.tally.specs.Tallies.{holds}
use Rattle.tally.specs.Saved.{record_of, save_tally}
use Rattle.tally.specs.Answers.{held_of}
use Rattle.tally.proofs.saved.SavedLaws.{length-record, put_record}
use Rattle.tally.proofs.tallies.Tally.save.Goals as goal

pub returns-then-not-held : goal.returns-then-not-held
unfolding save_tally held_of
returns-then-not-held c =
    let told : c.holds-held.result.holds ≡ holds c.args.self =
    ap (λ (h : Held). h.holds) c.holds-held.ensures in
    let d = c in
    let a = d.args in
    let e = failed told (not-true _ c.if-not-held.true) in
    let w = write-refused (require (holds a.self) 18) (record_of a.self) a.out.now (ap (λ b. require b 18) e) in
    (w.0, refl, w.1)

pub returns-then-out-lt68 : goal.returns-then-out-lt68
unfolding save_tally held_of
returns-then-out-lt68 c =
    let seven : length c.args.self.totals ≡ 7 =
    search rules in
    let told : c.holds-held.result.holds ≡ holds c.args.self =
    ap (λ (h : Held). h.holds) c.holds-held.ensures in
    let d = c in
    let a = d.args in
    let e = passed told (not-false _ c.if-not-held.false) in
    let l = length-record a.self seven in
    let w = write-short (require (holds a.self) 18) (record_of a.self) a.out.now (ap (λ b. require b 18) e) l c.if-out-lt68.true in
    (w.0, refl, w.1)

pub returns : goal.returns
unfolding save_tally held_of
returns c =
    let seven : length c.args.self.totals ≡ 7 =
    search rules in
    let fits : SFits w64 c.args.self.end.0 =
    search rules in
    let told : c.holds-held.result.holds ≡ holds c.args.self =
    ap (λ (h : Held). h.holds) c.holds-held.ensures in
    let totals = c in
    let end = totals in
    let kind = end in
    let count = kind in
    let room = count in
    let d = room in
    let a = d.args in
    let e = passed told (not-false _ room.if-not-held.false) in
    let l = length-record a.self seven in
    let s = put_record a.out.now a.self count.write.ensures kind.write-2.ensures (rw (to_z-of_z fits) at end.write-3.ensures) totals.put_totals.ensures in
    let w = write_done (require (holds a.self) 18) (record_of a.self) a.out.now (ap (λ b. require b 18) e) l room.if-out-lt68.false s in
    (w.0, refl, w.1)
