-- `Tally::read` meets its contract: the length, the count, the kind, then the tally.
use mathlib.Core.Path.{◌≡◌, sym, ap, ◌∙◌}
use mathlib.Core.List.{List}
use Prim.Native.Nat.{ℕ}
use borrow.Author.Rules.{rules}
use lib.ListN.{length}
use mir.Syntax.{w64}
use mir.Val.{SFits, to_z, of_z}
use mir.Facts.{to_z-of_z}
use Rattle.little_endian.specs.Fields.{unsigned_at}
use Rattle.tally.specs.declared.tallies.Held.{Held}
use Rattle.tally.specs.declared.tallies.Tally.{Tally}
use Rattle.tally.specs.Saved.{recorded}
use Rattle.tally.specs.Answers.{held_of, no_tally}
use Rattle.tally.proofs.saved.SavedLaws.{other_length, other-count, other-kind, does-not-hold, the-tally}
use Rattle.tally.proofs.tallies.Tally.read.Goals as goal

-- the bytes have the right length and kind, and record the tally that was put together
record Got (s : List ℕ) (t : Tally) : Type 0 where
  whole : length s ≡ 68
  count : unsigned_at s 0 2 ≡ 66
  kind : unsigned_at s 2 2 ≡ 1
  tally : recorded s ≡ t

pub returns-then-bytes-ne68 : goal.returns-then-bytes-ne68
unfolding no_tally
returns-then-bytes-ne68 c =
    let u = c.unread.ensures in
    let no = other_length c.args.bytes.now c.if-bytes-ne68.true in
    (u.0 ∙ no.0, u.1 ∙ no.1)

pub returns-then-read-ne66 : goal.returns-then-read-ne66
unfolding no_tally
returns-then-read-ne66 c =
    let u = c.unread-then-read-ne66.ensures in
    let count = c in
    let whole = count in
    let no = other-count whole.args.bytes.now whole.if-bytes-ne68.false (λ e. c.if-read-ne66.true (count.read.ensures ∙ e)) in
    (u.0 ∙ no.0, u.1 ∙ no.1)

pub returns-then-read-ne1 : goal.returns-then-read-ne1
unfolding no_tally
returns-then-read-ne1 c =
    let u = c.unread-then-read-ne1.ensures in
    let kind = c in
    let counted = kind in
    let count = counted in
    let whole = count in
    let no =
    other-kind whole.args.bytes.now whole.if-bytes-ne68.false (sym count.read.ensures ∙ counted.if-read-ne66.false)
    (λ e. c.if-read-ne1.true (kind.read-2.ensures ∙ e)) in
    (u.0 ∙ no.0, u.1 ∙ no.1)

-- a signed field holds bits, so the goals speak of `to_z w64 (of_z w64 x)`, which is x
pub returns-then-held : goal.returns-then-held
unfolding recorded held_of
returns-then-held c =
    let made : Tally = record { end = record { 0 = to_z w64 (of_z w64 c.read-3.result) }; totals = c.totals_at-totals.result } in
    let fits : SFits w64 c.read-3.result = search rules in
    let got : Got c.args.bytes.now made =
    record {
      whole = c.if-bytes-ne68.false;
      count = sym c.read.ensures ∙ c.if-read-ne66.false;
      kind = sym c.read-2.ensures ∙ c.if-read-ne1.false;
      tally = λ i. record { end = record { 0 = sym (to_z-of_z fits ∙ c.read-3.ensures) i }; totals = sym c.totals_at-totals.ensures i };
    } in
    the-tally c.args.bytes.now got.whole got.count got.kind made got.tally (sym (ap (λ (h : Held). h.holds) c.holds-held.ensures) ∙ c.if-held.true)

pub returns : goal.returns
unfolding no_tally recorded held_of
returns c =
    let made : Tally = record { end = record { 0 = to_z w64 (of_z w64 c.read-3.result) }; totals = c.totals_at-totals.result } in
    let fits : SFits w64 c.read-3.result = search rules in
    let got : Got c.args.bytes.now made =
    record {
      whole = c.if-bytes-ne68.false;
      count = sym c.read.ensures ∙ c.if-read-ne66.false;
      kind = sym c.read-2.ensures ∙ c.if-read-ne1.false;
      tally = λ i. record { end = record { 0 = sym (to_z-of_z fits ∙ c.read-3.ensures) i }; totals = sym c.totals_at-totals.ensures i };
    } in
    let u = c.unread-2.ensures in
    let no = does-not-hold c.args.bytes.now got.whole got.count got.kind made got.tally (sym (ap (λ (h : Held). h.holds) c.holds-held.ensures) ∙ c.if-held.false) in
    (u.0 ∙ no.0, u.1 ∙ no.1)
