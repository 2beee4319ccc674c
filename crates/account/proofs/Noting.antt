-- What the pencil account keeps true, and what an accepted run adds to it.
use Prim.Native.Nat.{ℕ, ◌+◌, ◌<◌, ◌≤◌}
use mathlib.Core.Path.{◌≡◌, refl, sym}
use mathlib.Core.Bool.{Bool, true, false, ◌&&◌}
use mathlib.Core.List.{List, ◌∷◌}
use native.Mathlib.Omega.{arith}
use lib.Dec.{leb, eqb}
use borrow.Author.Tests.{le-leb, lt-leb, lt-ltb, le-ltb, leb-true}
use Rattle.std.specs.Prelude.{Option, Some, None}
use Rattle.refusal.specs.Outcome.{answered, require}
use Rattle.refusal.proofs.OutcomeLaws.{require-answered}
use Rattle.refusal.proofs.Tests.{both, and-true}
use Rattle.days.specs.Counting.{count_among}
use Rattle.days.proofs.Counting.{count_none, count-all, count_same}
use Rattle.totals.specs.Totals.{sum, grown}
use Rattle.totals.proofs.CountLaws.{most, grow, parts}
use Rattle.zone.specs.declared.rules.Rule.{Rule}
use Rattle.zone.specs.declared.ticks.UtcTick.{UtcTick}
use Rattle.zone.specs.Ticks.{window_start, window_end}
use Rattle.rows.specs.Search.{has_rule}
use Rattle.tally.specs.Tallies.{at, in_span, seven, fresh, holds}
use Rattle.tally.specs.Booking.{local_weekday, check_run, with_run}
use Rattle.tally.specs.Saved.{record_of}
use Rattle.tally.proofs.tallies.HoldingLaws.{Spanned, spanned, holds-so}
use Rattle.account.specs.Pencil.{Run, Pencil, covered, ticks_on, time_run, opened, tally_of}

-- ---- a run that the rules accept
pub record Accepts (end a b : UtcTick) : Type 0 where
  pub from : Spanned a
  pub to : Spanned b
  pub order : at a ≤ at b
  pub later : at end ≤ at a

pub accepts : (row : List Rule) (end a b : UtcTick) → check_run row end a b ≡ answered tt → Accepts end a b
unfolding check_run
accepts row end a b e =
    let p = require-answered (in_span a && in_span b) 15 _ tt e in
    let q = require-answered (leb (at a) (at b) && leb (at end) (at a)) 17 (require (has_rule row (at a)) 16) tt p.1 in
    let i = both (in_span a) (in_span b) p.0 in
    let j = both (leb (at a) (at b)) (leb (at end) (at a)) q.0 in
    record { from = spanned a i.0; to = spanned b i.1; order = leb-true (at a) (at b) j.0; later = leb-true (at end) (at a) j.1 }

-- ---- the totals of noted runs

local-weekday-below : (row : List Rule) (u : ℕ) → local_weekday row u < 7
unfolding local_weekday
local-weekday-below row u = omega arith

-- the ticks in the runs
abbrev pub ticks_in : List Run → ℕ
ticks_in rs = count_among (covered rs) window_start window_end

-- the seven totals are a count by weekday, so they add up to the count of all ticks in the runs
pub total : (row : List Rule) (rs : List Run) → sum (seven (ticks_on row rs)) ≡ ticks_in rs
unfolding ticks_on
total row rs = parts 7 (local_weekday row) (local-weekday-below row) (covered rs) window_start window_end

pub alike-ticks : (row : List Rule) (rs ss : List Run) → ((u : ℕ) → covered rs u ≡ covered ss u) → seven (ticks_on row rs) ≡ seven (ticks_on row ss)
unfolding ticks_on
alike-ticks row rs ss h = λ i. seven (λ w. count_among (λ u. h u i && eqb (local_weekday row u) w) window_start window_end)

-- ---- what stays true: the end is in the window or at its end, no noted run reaches past it, the noted runs do not overlap, and the record that may be read is
-- that of the account's tally
pub record Kept (row : List Rule) (p : Pencil) (last : Option (List ℕ)) : Type 0 where
  pub span : Spanned p.end
  pub off : (u : ℕ) → at p.end ≤ u → covered p.noted u ≡ false
  pub time : ticks_in p.noted ≡ time_run p.noted
  pub saved : (s : List ℕ) → last ≡ Some s → s ≡ record_of (tally_of row p)

-- so the account's tally holds
pub tally-holds : (row : List Rule) (p : Pencil) (last : Option (List ℕ)) → Kept row p last → holds (tally_of row p) ≡ true
unfolding tally_of
tally-holds row p last k =
    let m = most (covered p.noted) window_start (at p.end) window_end k.span.start k.span.stop k.off in
    holds-so (tally_of row p) (record { span = k.span; spent = omega (arith, m, total row p.noted) })

none-some : {s : List ℕ} → ◌≡◌ {A = Option (List ℕ)} None (Some s) → ⊥
none-some e = let x : ◌≡◌ {A = ℕ} 0 1 = cc in omega arith

-- ---- at the start
pub opened-tally : (row : List Rule) → fresh ≡ tally_of row opened
unfolding fresh tally_of opened ticks_on covered
opened-tally row =
    λ i. record { end = opened.end; totals = seven (λ w. sym (count_none (λ u. false && eqb (local_weekday row u) w) window_start window_end (λ u h l. refl)) i) }

pub opened-kept : (row : List Rule) → Kept row opened None
unfolding opened covered time_run
opened-kept row =
    record {
      span = record { start = omega arith; stop = omega arith };
      off = λ u h. refl;
      time = count_none (λ u. false) window_start window_end (λ u h l. refl);
      saved = λ s e. absurd (none-some e);
    }

-- ---- an accepted run

-- the account with the run from a to before b noted
abbrev pub with_note : Pencil → UtcTick → UtcTick → Pencil
with_note p a b = record { end = b; noted = record { from = a; to = b } ∷ p.noted }

-- a test with nothing added to it
bare : (q : ℕ → Bool) → count_among (λ u. q u && true) window_start window_end ≡ count_among q window_start window_end
bare q = count_same (λ u. q u && true) q window_start window_end (λ u h l. and-true (q u))

module _ (row : List Rule) (p : Pencil) (last : Option (List ℕ)) (k : Kept row p last) (a b : UtcTick) (y : Accepts p.end a b) where
  -- the run's ticks are added, by any further test on a tick: its weekday, or none
  added : (d : ℕ → Bool)
      → count_among (λ u. covered (with_note p a b).noted u && d u) window_start window_end
      ≡ count_among (λ u. covered p.noted u && d u) window_start window_end + count_among d (at a) (at b)
  unfolding covered
  added d =
      grow (λ u. covered (with_note p a b).noted u && d u) (λ u. covered p.noted u && d u) d window_start (at a) (at b) window_end
      y.from.start y.order y.to.stop
      (λ u h. rw (lt-leb (at a) u h))
      (λ u h. rw (k.off u (omega (arith, y.later))))
      (λ u h l. rw (le-leb (at a) u h, lt-ltb u (at b) l))
      (λ u h. rw (le-leb (at a) u (omega (arith, y.order)), le-ltb u (at b) h, k.off u (omega (arith, y.order, y.later))))

  pub with-run : with_run row (tally_of row p) a b ≡ tally_of row (with_note p a b)
  unfolding with_run grown tally_of ticks_on
  with-run = λ i. record { end = b; totals = seven (λ w. sym (added (λ u. eqb (local_weekday row u) w)) i) }

  pub noted-kept : Kept row (with_note p a b) None
  unfolding covered time_run
  noted-kept =
      record {
        span = y.to;
        off = λ u h. rw (le-leb (at a) u (omega (arith, y.order)), le-ltb u (at b) h, k.off u (omega (arith, y.order, y.later)));
        time =
            omega (arith, sym (bare (covered (with_note p a b).noted)), added (λ u. true), bare (covered p.noted), count-all (λ u. true) (at a) (at b) (λ u h l. refl), k.time);
        saved = λ s e. absurd (none-some e);
      }
