-- `tally::booking::check_run` meets its contract, test by test.
use Prim.Native.Nat.{ℕ}
use mathlib.Core.Path.{◌≡◌, ap}
use mathlib.Core.Bool.{◌&&◌}
use lib.Dec.{leb}
use borrow.Author.Tests.{not-true, not-false}
use Rattle.refusal.proofs.Tests.{failed, passed}
use Rattle.tally.specs.declared.tallies.Held.{Held}
use Rattle.tally.specs.Tallies.{at, in_span, holds}
use Rattle.tally.specs.Answers.{held_of}
use Rattle.tally.specs.Booking.{check_run}
use Rattle.tally.proofs.booking.check_run.Goals as goal

in_order : {x y z p q r : ℕ} → x ≡ p → y ≡ q → z ≡ r → (leb x y && leb z x) ≡ (leb p q && leb r p)
in_order a b c = cc

pub returns-then-not-holds : goal.returns-then-not-holds
unfolding check_run held_of
returns-then-not-holds c =
    let held : c.holds.result.holds ≡ holds c.args.booking.tally =
    ap (λ (h : Held). h.holds) c.holds.ensures in
    rw (failed held (not-true _ c.if-not-holds.true))

pub returns-then-not-in_span : goal.returns-then-not-in_span
unfolding check_run held_of
returns-then-not-in_span c =
    let held : c.holds.result.holds ≡ holds c.args.booking.tally =
    ap (λ (h : Held). h.holds) c.holds.ensures in
    let spans : (c.in_span.result && c.in_span-2.result) ≡ (in_span c.args.booking.from && in_span c.args.booking.to) =
    rw (c.in_span.ensures, c.in_span-2.ensures) in
    rw (passed held (not-false _ c.if-not-holds.false), failed spans c.if-not-in_span.true)

pub returns-then-not-from-at : goal.returns-then-not-from-at
unfolding check_run held_of
returns-then-not-from-at c =
    let held : c.holds.result.holds ≡ holds c.args.booking.tally =
    ap (λ (h : Held). h.holds) c.holds.ensures in
    let spans : (c.in_span.result && c.in_span-2.result) ≡ (in_span c.args.booking.from && in_span c.args.booking.to) =
    rw (c.in_span.ensures, c.in_span-2.ensures) in
    let ordered : (leb c.at-from.result c.at.result && leb c.at-2.result c.at-from.result) ≡ (leb (at c.args.booking.from) (at c.args.booking.to) && leb (at c.args.booking.tally.end) (at c.args.booking.from)) =
    in_order c.at-from.ensures c.at.ensures c.at-2.ensures in
    rw (passed held (not-false _ c.if-not-holds.false), passed spans c.if-not-in_span.false, failed ordered c.if-not-from-at.true)

pub returns-in-Some : goal.returns-in-Some
unfolding check_run held_of
returns-in-Some c =
    let held : c.holds.result.holds ≡ holds c.args.booking.tally =
    ap (λ (h : Held). h.holds) c.holds.ensures in
    let spans : (c.in_span.result && c.in_span-2.result) ≡ (in_span c.args.booking.from && in_span c.args.booking.to) =
    rw (c.in_span.ensures, c.in_span-2.ensures) in
    let ordered : (leb c.at-from.result c.at.result && leb c.at-2.result c.at-from.result) ≡ (leb (at c.args.booking.from) (at c.args.booking.to) && leb (at c.args.booking.tally.end) (at c.args.booking.from)) =
    in_order c.at-from.ensures c.at.ensures c.at-2.ensures in
    let found = rw (c.in-Some.is, c.year_of.ensures, c.at-from.ensures) at c.rule_in_force.ensures in
    rw (passed held (not-false _ c.if-not-holds.false), passed spans c.if-not-in_span.false, passed ordered c.if-not-from-at.false, ← found)

pub returns-in-None : goal.returns-in-None
unfolding check_run held_of
returns-in-None c =
    let held : c.holds.result.holds ≡ holds c.args.booking.tally =
    ap (λ (h : Held). h.holds) c.holds.ensures in
    let spans : (c.in_span.result && c.in_span-2.result) ≡ (in_span c.args.booking.from && in_span c.args.booking.to) =
    rw (c.in_span.ensures, c.in_span-2.ensures) in
    let ordered : (leb c.at-from.result c.at.result && leb c.at-2.result c.at-from.result) ≡ (leb (at c.args.booking.from) (at c.args.booking.to) && leb (at c.args.booking.tally.end) (at c.args.booking.from)) =
    in_order c.at-from.ensures c.at.ensures c.at-2.ensures in
    let found = rw (c.in-None.is, c.year_of.ensures, c.at-from.ensures) at c.rule_in_force.ensures in
    rw (passed held (not-false _ c.if-not-holds.false), passed spans c.if-not-in_span.false, passed ordered c.if-not-from-at.false, ← found)
