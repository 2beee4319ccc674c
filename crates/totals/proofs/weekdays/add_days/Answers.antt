-- `totals::weekdays::add_days` meets its contract.
use Prim.Native.Nat.{ℕ, ◌+◌, ◌-◌, ◌*◌, ◌/◌, ◌%◌, ◌≤◌, ◌<◌}
use mathlib.Core.Path.{◌≡◌, sym, ap, ◌∙◌}
use mathlib.Core.List.{List}
use native.Mathlib.Omega.{arith}
use lib.ListN.{length, length-set, get_or, set}
use Rattle.days.specs.Ticks.{weekday_of}
use Rattle.totals.specs.Totals.{sum, grown}
use Rattle.totals.proofs.TableLaws.{le-sum, sum-set}
use Rattle.totals.proofs.GrownLaws.{grown-on, grown-one}
use Rattle.totals.proofs.weekdays.add_days.Invariants.{Inv}
use Rattle.totals.proofs.weekdays.add_days.Goals as goal
use Rattle.totals.proofs.weekdays.add_days.Goals.{else-loop-midnight-test, then-loop-midnight-test+else-to-midnight-gt864000000000}

abbrev added : List ℕ → ℕ → ℕ → List ℕ
added sums weekday ticks = set sums weekday (get_or sums weekday 0 + ticks)

-- ---- the ticks of one day, up to the midnight after x
module _ (sums : List ℕ) (x y weekday : ℕ) (len : length sums ≡ 7) (day : weekday ≡ (x / 864000000000 + 1) % 7) (ahead : x ≤ y) (within : y ≤ (x / 864000000000 + 1) * 864000000000) where
  one-day : added sums weekday (y - x) ≡ grown 7 weekday_of sums x y
  one-day =
      ap (λ (w : ℕ). added sums w (y - x)) day
      ∙ sym (grown-one 7 weekday_of sums x y ((x / 864000000000 + 1) % 7) len (omega arith) ahead
      (λ t i j. let e : t / 864000000000 ≡ x / 864000000000 = omega arith in ap (λ (n : ℕ). (n + 1) % 7) e))

  goes_on : (to : ℕ) → y ≤ to → grown 7 weekday_of (added sums weekday (y - x)) y to ≡ grown 7 weekday_of sums x to
  goes_on to h = ap (λ (l : List ℕ). grown 7 weekday_of l y to) one-day ∙ grown-on 7 weekday_of sums x y to ahead h

  sum_added : sum (added sums weekday (y - x)) ≡ sum sums + (y - x)
  sum_added = sum-set sums weekday (y - x) (omega arith)

-- ---- a turn, up to midnight, and the end, where no midnight is left before `to`
module _ {from to : ℕ} {totals : List ℕ} where
  turned : {x midnight weekday next : ℕ} {sums : List ℕ} → Inv from to x midnight weekday sums totals → midnight < to → next ≡ (weekday + 1) % 7
      → Inv from to midnight (midnight + 864000000000) next (added sums weekday (midnight - x)) totals
  turned {x} {midnight} {weekday} {next} {sums} i h e =
      record {
        start = omega (arith, i.start, i.next);
        left = omega arith;
        next = omega (arith, i.next);
        day = omega (arith, i.next, i.day);
        seven = simp length-set i.seven;
        room = omega (arith, sum_added sums x midnight weekday i.seven i.day (omega (arith, i.next)) (omega (arith, i.next)), i.room, i.next);
        grows = goes_on sums x midnight weekday i.seven i.day (omega (arith, i.next)) (omega (arith, i.next)) to (omega arith) ∙ i.grows;
      }

  last-fits : {x midnight weekday : ℕ} {sums : List ℕ} → Inv from to x midnight weekday sums totals → get_or sums weekday 0 + (to - x) < 18446744073709551616
  last-fits {x} {midnight} {weekday} {sums} i = omega (arith, le-sum sums weekday, i.room)

  last : {x midnight weekday : ℕ} {sums : List ℕ} → Inv from to x midnight weekday sums totals → to ≤ midnight → added sums weekday (to - x) ≡ grown 7 weekday_of totals from to
  last {x} {midnight} {weekday} {sums} i h = one-day sums x to weekday i.seven i.day i.left (omega (arith, i.next)) ∙ i.grows

pub overflow_add-sums : goal.overflow_add-sums
overflow_add-sums c =
    let l = c.loop-midnight in
    omega (arith, le-sum l.sums l.weekday, l.invariant.room, l.invariant.next)

pub loop-midnight-preserved : goal.loop-midnight-preserved
loop-midnight-preserved c = turned c.loop-midnight.invariant (omega arith) c.next_weekday-weekday.ensures

pub overflow_add-sums-2 : goal.overflow_add-sums-2
overflow_add-sums-2 c =
    let l = c.loop-midnight in
    elim c.loop-midnight-test.branch [
      | else-loop-midnight-test w ↦ rw (w.sums-is, w.x-is, w.weekday-is) (record { fits = last-fits l.invariant })
      | then-loop-midnight-test+else-to-midnight-gt864000000000 w ↦ rw (w.sums-is, w.x-is, w.weekday-is) (record { fits = last-fits (turned l.invariant (omega arith) w.next_weekday-weekday.ensures) })
    ]

pub returns : goal.returns
returns c =
    let l = c.loop-midnight in
    elim c.loop-midnight-test.branch [
      | else-loop-midnight-test w ↦ rw (w.sums-is, w.x-is, w.weekday-is) (last l.invariant (omega arith))
      | then-loop-midnight-test+else-to-midnight-gt864000000000 w ↦ rw (w.sums-is, w.x-is, w.weekday-is) (last (turned l.invariant (omega arith) w.next_weekday-weekday.ensures) (omega arith))
    ]
