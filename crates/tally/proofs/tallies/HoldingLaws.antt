-- What a tick from the window's start to its end says, and what a tally that holds says.
use Prim.Native.Nat.{◌-◌, ◌≤◌}
use mathlib.Core.Path.{◌≡◌, refl}
use mathlib.Core.Bool.{true, false}
use native.Mathlib.Omega.{arith}
use lib.Dec.{leb}
use lib.IntN.{ℤ, pos, negsuc}
use borrow.Author.Tests.{leb-true, le-leb}
use Rattle.refusal.proofs.Tests.{both}
use Rattle.totals.specs.Totals.{sum}
use Rattle.zone.specs.declared.ticks.UtcTick.{UtcTick}
use Rattle.zone.specs.Ticks.{window_start, window_end}
use Rattle.tally.specs.declared.tallies.Tally.{Tally}
use Rattle.tally.specs.Tallies.{fresh, natural, at, in_span, holds}
use Rattle.tally.specs.Answers.{no_tally}

pub record Spanned (t : UtcTick) : Type 0 where
  pub start : window_start ≤ at t
  pub stop : at t ≤ window_end

pub spanned : (t : UtcTick) → in_span t ≡ true → Spanned t
unfolding in_span
spanned t e =
    let b = both (leb window_start (at t)) (leb (at t) window_end) e in
    record { start = leb-true window_start (at t) b.0; stop = leb-true (at t) window_end b.1 }

pub in-span : (t : UtcTick) → Spanned t → in_span t ≡ true
unfolding in_span
in-span t s = rw (le-leb window_start (at t) s.start, le-leb (at t) window_end s.stop)

pub record Holding (t : Tally) : Type 0 where
  pub span : Spanned t.end
  pub spent : sum t.totals ≤ at t.end - window_start

pub holding : (t : Tally) → holds t ≡ true → Holding t
unfolding holds
holding t e =
    let b = both (in_span t.end) (leb (sum t.totals) (at t.end - window_start)) e in
    record { span = spanned t.end b.0; spent = leb-true _ _ b.1 }

pub holds-so : (t : Tally) → Holding t → holds t ≡ true
unfolding holds
holds-so t h = rw (in-span t.end h.span, le-leb (sum t.totals) (at t.end - window_start) h.spent)

-- such a tick is not negative
pub positive : (z : ℤ) → window_start ≤ natural z → z ≡ pos (natural z)
positive (pos n) h = refl
positive (negsuc n) h = absurd (omega arith)

pub fresh_holds : holds fresh ≡ true
unfolding holds in_span fresh
fresh_holds = refl

-- what stands beside a refused reading does not hold
pub no-tally-does-not : holds no_tally ≡ false
unfolding holds in_span no_tally
no-tally-does-not = refl
