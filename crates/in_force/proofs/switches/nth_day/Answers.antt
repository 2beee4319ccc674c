-- `in_force::switches::nth_day` meets its contract: only the fifth one can be past the month's end.
-- the days from the month's first day to the first with the weekday
use Rattle.std.proofs.Common.{◌≡◌, ℕ, ◌+◌, ◌-◌, ◌*◌, ◌%◌, ◌<◌, ◌≤◌, Bool, true, false, cond, ltb, leb, refl, ◌∙◌, arith, ltb-false, ltb-true, le-leb}
use borrow.Author.Tests.{lt-leb}
use Rattle.in_force.specs.Steps.{nth_day}
use Rattle.in_force.proofs.switches.nth_day.Goals as goal

to-weekday : (f w : ℕ) → f ≤ 12000000 → (w + 14680063 - f) % 7 ≡ (w + 7 - (f + 1) % 7) % 7
to-weekday f w h = omega arith

-- t is the first day with the weekday
module _ (t k len : ℕ) (week : t ≤ 7) (k1 : 1 ≤ k) (k5 : k ≤ 5) (long : 28 ≤ len) where
  abbrev nth : ℕ
  nth = cond (ltb k 5) (t + 7 * (k - 1)) (cond (leb (t + 28) len) (t + 28) (t + 21))

  inside : t + 7 * (k - 1) ≤ len → t + 7 * (k - 1) ≡ nth
  inside h = go (ltb k 5) refl
    where
      go : (b : Bool) → ltb k 5 ≡ b → t + 7 * (k - 1) ≡ nth
      go true e = rw e
      go false e =
          let g : 5 ≤ k = ltb-false k 5 e in
          rw (e, le-leb (t + 28) len (omega arith)) (omega arith)

  past : len < t + 7 * (k - 1) → t + 7 * (k - 1) - 7 ≡ nth
  past h = go (ltb k 5) refl
    where
      go : (b : Bool) → ltb k 5 ≡ b → t + 7 * (k - 1) - 7 ≡ nth
      go true e =
          let g : k < 5 = ltb-true k 5 e in
          absurd (omega arith)
      go false e =
          let g : 5 ≤ k = ltb-false k 5 e in
          rw (e, lt-leb (t + 28) len (omega arith)) (omega arith)

pub returns-then-day-length : goal.returns-then-day-length
unfolding nth_day
returns-then-day-length c =
    let r = c in
    let s = r in
    let e = r.rest_of_weeks.ensures ∙ to-weekday s.args.first s.args.weekday s.requires.0 in
    (rw e (inside _ s.args.occurrence s.args.length (omega arith) s.requires.2 s.requires.3 s.requires.4 (rw e at c.if-day-length.true)), omega arith, omega arith)

pub returns : goal.returns
unfolding nth_day
returns c =
    let r = c in
    let s = r in
    let e = r.rest_of_weeks.ensures ∙ to-weekday s.args.first s.args.weekday s.requires.0 in
    (rw e (past _ s.args.occurrence s.args.length (omega arith) s.requires.2 s.requires.3 s.requires.4 (rw e at c.if-day-length.false)), omega arith, omega arith)
