-- `tally::booking::add_in_year` meets its contract. The loop's invariant: the totals so far, grown by what is left, come to the whole.
use Prim.Native.Nat.{ℕ, ◌+◌, ◌-◌, ◌≤◌, ◌<◌}
use mathlib.Core.Path.{◌≡◌, sym, ap, ◌∙◌}
use native.Mathlib.Omega.{arith}
use lib.ListN.{length}
use mir.Syntax.{w32}
use mir.Val.{to_z, of_z}
use mir.ValLaws.{to_z-of_z}
use Rattle.days.specs.Ticks.{weekday_of}
use Rattle.totals.specs.Totals.{sum, grown}
use Rattle.totals.proofs.GrownLaws.{length-grown, grown-none, sum-grown}
use Rattle.in_force.specs.Biases.{less_bias}
use Rattle.in_force.specs.Steps.{bias_at}
use Rattle.in_force.proofs.stretches.StretchLaws.{change}
use Rattle.tally.specs.Steps.{weekday_in}
use Rattle.tally.proofs.WalkLaws.{less-most, in-range, turn_on}
use Rattle.tally.proofs.booking.add_in_year.Goals as goal

pub less_bias-local-requires : goal.less_bias-local-requires
less_bias-local-requires c =
    let bias-is : to_z w32 (of_z w32 c.bias_at.result) ≡ bias_at c.args.k c.loop-at.at =
    to_z-of_z w32 c.bias_at.result (record { sfits = c.bias_at.type_inv }) ∙ c.bias_at.ensures in
    let on : c.loop-at.at < c.args.to =
    omega (arith, c.loop-at-test.true) in
    let s = c in
    (rw bias-is (in-range s.args.k s.requires.0 s.requires.1 c.loop-at.at), omega (arith, s.requires.2, c.loop-at.invariant.0), omega (arith, on, s.requires.4))

pub overflow_sub-end : goal.overflow_sub-end
overflow_sub-end c =
    let on : c.loop-at.at < c.args.to =
    omega (arith, c.loop-at-test.true) in
    let ahead : (c.loop-at.at < c.next_change-end.result) × (c.next_change-end.result ≤ c.args.to) =
    let h = change c.args.k c.loop-at.at c.args.to on in
    (omega (arith, h.after, c.next_change-end.ensures), omega (arith, h.up_to, c.next_change-end.ensures)) in
    omega (arith, ahead.0)

pub overflow_add-local : goal.overflow_add-local
overflow_add-local c =
    let bias-is : to_z w32 (of_z w32 c.bias_at.result) ≡ bias_at c.args.k c.loop-at.at =
    to_z-of_z w32 c.bias_at.result (record { sfits = c.bias_at.type_inv }) ∙ c.bias_at.ensures in
    let local-is : c.less_bias-local.result ≡ less_bias c.loop-at.at (bias_at c.args.k c.loop-at.at) =
    rw bias-is at c.less_bias-local.ensures in
    let on : c.loop-at.at < c.args.to =
    omega (arith, c.loop-at-test.true) in
    let ahead : (c.loop-at.at < c.next_change-end.result) × (c.next_change-end.result ≤ c.args.to) =
    let h = change c.args.k c.loop-at.at c.args.to on in
    (omega (arith, h.after, c.next_change-end.ensures), omega (arith, h.up_to, c.next_change-end.ensures)) in
    let small : c.less_bias-local.result ≤ c.loop-at.at + 864000000000 =
    let s = c in
    omega (arith, local-is, less-most c.loop-at.at (bias_at s.args.k c.loop-at.at) (in-range s.args.k s.requires.0 s.requires.1 c.loop-at.at)) in
    omega (arith, small, ahead.0, ahead.1, c.requires.4)

pub add_stretch-grown-requires : goal.add_stretch-grown-requires
add_stretch-grown-requires c =
    let bias-is : to_z w32 (of_z w32 c.bias_at.result) ≡ bias_at c.args.k c.loop-at.at =
    to_z-of_z w32 c.bias_at.result (record { sfits = c.bias_at.type_inv }) ∙ c.bias_at.ensures in
    let local-is : c.less_bias-local.result ≡ less_bias c.loop-at.at (bias_at c.args.k c.loop-at.at) =
    rw bias-is at c.less_bias-local.ensures in
    let on : c.loop-at.at < c.args.to =
    omega (arith, c.loop-at-test.true) in
    let ahead : (c.loop-at.at < c.next_change-end.result) × (c.next_change-end.result ≤ c.args.to) =
    let h = change c.args.k c.loop-at.at c.args.to on in
    (omega (arith, h.after, c.next_change-end.ensures), omega (arith, h.up_to, c.next_change-end.ensures)) in
    let small : c.less_bias-local.result ≤ c.loop-at.at + 864000000000 =
    let s = c in
    omega (arith, local-is, less-most c.loop-at.at (bias_at s.args.k c.loop-at.at) (in-range s.args.k s.requires.0 s.requires.1 c.loop-at.at)) in
    let a = ahead in
    let l = c.loop-at in
    (omega arith, omega (arith, small, a.0, a.1, c.requires.4), omega (arith, a.0, a.1, l.invariant.3))

pub loop-at-smaller : goal.loop-at-smaller
loop-at-smaller c =
    let on : c.loop-at.at < c.args.to =
    omega (arith, c.loop-at-test.true) in
    let ahead : (c.loop-at.at < c.next_change-end.result) × (c.next_change-end.result ≤ c.args.to) =
    let h = change c.args.k c.loop-at.at c.args.to on in
    (omega (arith, h.after, c.next_change-end.ensures), omega (arith, h.up_to, c.next_change-end.ensures)) in
    omega (arith, ahead.0, ahead.1)

pub loop-at-preserved : goal.loop-at-preserved
loop-at-preserved c =
    let bias-is : to_z w32 (of_z w32 c.bias_at.result) ≡ bias_at c.args.k c.loop-at.at =
    to_z-of_z w32 c.bias_at.result (record { sfits = c.bias_at.type_inv }) ∙ c.bias_at.ensures in
    let local-is : c.less_bias-local.result ≡ less_bias c.loop-at.at (bias_at c.args.k c.loop-at.at) =
    rw bias-is at c.less_bias-local.ensures in
    let on : c.loop-at.at < c.args.to =
    omega (arith, c.loop-at-test.true) in
    let ahead : (c.loop-at.at < c.next_change-end.result) × (c.next_change-end.result ≤ c.args.to) =
    let h = change c.args.k c.loop-at.at c.args.to on in
    (omega (arith, h.after, c.next_change-end.ensures), omega (arith, h.up_to, c.next_change-end.ensures)) in
    let b = c in
    let s = c in
    let l = b.loop-at in
    let a = ahead in
    let x : ℕ = c.less_bias-local.result in
    let y : ℕ = x + (b.next_change-end.result - l.at) in (
      omega (arith, l.invariant.0, a.0),
      a.1,
      ap length c.add_stretch-grown.ensures ∙ length-grown 7 weekday_of l.sums x y,
      omega (arith, ap sum c.add_stretch-grown.ensures, sum-grown 7 weekday_of (λ t. omega arith) l.sums x y l.invariant.2, l.invariant.3, a.0, a.1),
      turn_on s.args.k s.requires.0 s.requires.1 l.sums l.at s.args.to (omega (arith, s.requires.2, l.invariant.0)) on x b.next_change-end.result c.add_stretch-grown.result
          local-is b.next_change-end.ensures c.add_stretch-grown.ensures
          ∙ l.invariant.4,
    )

pub returns : goal.returns
returns c =
    let l = c.loop-at in
    let s = c in
    let e : l.at ≡ s.args.to = omega (arith, l.invariant.1) in
    sym (grown-none 7 (weekday_in s.args.k) l.sums l.at l.invariant.2) ∙ ap (λ (b : ℕ). grown 7 (weekday_in s.args.k) l.sums l.at b) e ∙ l.invariant.4
