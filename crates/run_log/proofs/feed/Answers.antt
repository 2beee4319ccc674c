-- `feed` meets its contract. The loop's invariant: what is left of the piece, fed, comes to what all of it does.
use Prim.Native.Nat.{ℕ, ◌-◌, ◌≤◌}
use native.Mathlib.Omega.{arith}
use mathlib.Core.Path.{◌≡◌, sym, ap, ◌∙◌}
use mathlib.Core.List.{List, []}
use lib.ListN.{length, take}
use lib.Seq.{length-take-le}
use mathlib.Core.Bool.{true, false}
use Rattle.std.proofs.Common.{rules}
use Rattle.std.specs.Cmp.Lexicographic.{same_text, other_text}
use Rattle.zones.specs.Zones.{row_of}
use Rattle.run_log.specs.declared.Job.{Job}
use Rattle.run_log.specs.Feed.{Fed, fed, state_of, part_fed}
use Rattle.run_log.proofs.FeedLaws.{split_by, with-end, without-end, fed-none, fed-stopped, turn, state-within, empty}
use Rattle.run_log.proofs.feed.Goals as goal

pub loop-line-preserved-in-Some-strip_suffix : goal.loop-line-preserved-in-Some-strip_suffix
loop-line-preserved-in-Some-strip_suffix c =
    let p = c.add_part-job in
    let l = c.loop-line in
    let row = row_of c.args.zone in
    let n : ℕ = length c.args.bytes.now in
    let k = c.in-Some.ensures.steps in
    let e = c.in-Some-strip_suffix.ensures.cases in
    let first = with-end (split_by _ _ _ k.1.0 k.0 k.1.1 k.1.2 k.2 (λ f a r f' h. search rules)) (same_text _ _ (sym e.0)) in
    let most : length (take l.job.len l.bytes) ≤ n = omega (arith, length-take-le l.job.len l.bytes l.invariant.0, l.invariant.0, l.invariant.1) in
    let step : state_of p.result p.new.bytes ≡ part_fed row n (state_of l.job l.bytes) (take (length c.in-Some.line.now - 1) c.in-Some.line.now) true = p.ensures.0 ∙ rw (l.invariant.1, e.1) in
    (p.ensures.1, p.ensures.2 ∙ l.invariant.1, turn row n first (state_of l.job l.bytes) (state_of p.result p.new.bytes) c.if-job.false most step ∙ l.invariant.2)

pub loop-line-preserved : goal.loop-line-preserved
loop-line-preserved c =
    let p = c.add_part-job-in-None-strip_suffix in
    let l = c.loop-line in
    let row = row_of c.args.zone in
    let n : ℕ = length c.args.bytes.now in
    let k = c.in-Some.ensures.steps in
    let first = without-end (split_by _ _ _ k.1.0 k.0 k.1.1 k.1.2 k.2 (λ f a r f' h. search rules)) (other_text _ _ (sym c.in-None-strip_suffix.ensures.cases)) in
    let most : length (take l.job.len l.bytes) ≤ n = omega (arith, length-take-le l.job.len l.bytes l.invariant.0, l.invariant.0, l.invariant.1) in
    let step : state_of p.result p.new.bytes ≡ part_fed row n (state_of l.job l.bytes) c.in-Some.line.now false = p.ensures.0 ∙ rw l.invariant.1 in
    (p.ensures.1, p.ensures.2 ∙ l.invariant.1, turn row n first (state_of l.job l.bytes) (state_of p.result p.new.bytes) c.if-job.false most step ∙ l.invariant.2)

pub returns-then-job : goal.returns-then-job
returns-then-job c =
    let l = c.loop-line in
    let a = c.args in
    let w = c.within-job in
    let row = row_of a.zone in
    let n : ℕ = length a.bytes.now in
    let same : state_of w.result a.bytes.now ≡ state_of a.job a.bytes.now = ap (λ (j : Job). state_of j a.bytes.now) w.ensures ∙ state-within a.job a.bytes.now in
    (sym (fed-stopped row n (state_of l.job l.bytes) c.if-job.true l.line-iterator.rest.now) ∙ l.invariant.2 ∙ ap (λ (s : Fed). fed row n s a.piece.now) same, l.invariant.1)

pub returns : goal.returns
returns c =
    let l = c.loop-line in
    let a = c.args in
    let w = c.within-job in
    let row = row_of a.zone in
    let n : ℕ = length a.bytes.now in
    let same : state_of w.result a.bytes.now ≡ state_of a.job a.bytes.now = ap (λ (j : Job). state_of j a.bytes.now) w.ensures ∙ state-within a.job a.bytes.now in
    let done : l.line-iterator.rest.now ≡ [] = empty l.line-iterator.rest.now (search rules) in
    (sym (ap (λ (t : List ℕ). fed row n (state_of l.job l.bytes) t) done ∙ fed-none row n (state_of l.job l.bytes)) ∙ l.invariant.2 ∙ ap (λ (s : Fed). fed row n s a.piece.now) same, l.invariant.1)
