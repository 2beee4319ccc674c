-- `sheet::total::time_run` meets its contract: the totals of a tally that holds add up to less than 2 ^ 63.
use Prim.Native.Nat.{ℕ}
use mathlib.Core.Path.{◌≡◌, refl, sym, ap, ◌∙◌}
use mathlib.Core.List.{List}
use borrow.Author.Tests.{not-true, not-false}
use Rattle.std.proofs.lemmas.List.Recursion.{is_sum_by}
use Rattle.std.proofs.lemmas.Iterator.{YieldsList-from_slice}
use Rattle.std.proofs.lemmas.Iterator.Consumers.{fits_from_yields_list, sum_from_yields_List}
use Rattle.std.specs.List.{sum as std_sum}
use Rattle.refusal.proofs.Tests.{failed, passed}
use Rattle.totals.specs.Totals.{sum}
use Rattle.tally.specs.declared.tallies.Held.{Held}
use Rattle.tally.specs.declared.tallies.Tally.{Tally}
use Rattle.tally.specs.Tallies.{holds}
use Rattle.tally.specs.Answers.{held_of}
use Rattle.sheet.proofs.HourLaws.{sum_fits}
use Rattle.sheet.proofs.total.time_run.Goals as goal

held : (h : Held) (t : Tally) → h ≡ held_of t → h.holds ≡ holds t
unfolding held_of
held h t e = ap (λ (x : Held). x.holds) e

summed : (l : List ℕ) → std_sum l ≡ sum l
summed l = sym (is_sum_by sum (λ x. x) refl (λ _ _. refl) l)

pub returns-then-not-holds : goal.returns-then-not-holds
returns-then-not-holds c = rw (failed (held _ _ c.holds.ensures) (not-true _ c.if-not-holds.true))

pub sum-requires-clause-fits : goal.sum-requires-clause-fits
sum-requires-clause-fits c =
    let t = c.args.tally in
    fits_from_yields_list c.iter.result _ (YieldsList-from_slice t.totals cc) (rw (summed t.totals) (sum_fits t (passed (held _ _ c.holds.ensures) (not-false _ c.if-not-holds.false))))

pub returns : goal.returns
returns c =
    let t = c.args.tally in
    rw (passed (held _ _ c.holds.ensures) (not-false _ c.if-not-holds.false)) (sum_from_yields_List c.iter.result _ c.sum.ensures.ran (YieldsList-from_slice t.totals cc) ∙ summed t.totals)
