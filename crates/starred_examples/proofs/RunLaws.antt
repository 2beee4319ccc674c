-- A run that is cut where its bias or its local day changes: from cut to cut all ticks have one weekday, so that its totals compute.
use Prim.Native.Nat.{ℕ, ◌+◌, ◌-◌, ◌%◌, ◌/◌, ◌≤◌, ◌<◌}
use mathlib.Core.Path.{◌≡◌, sym, ap, ◌∙◌}
use mathlib.Core.Bool.{Bool, true, ◌&&◌}
use mathlib.Core.List.{List, [], ◌∷◌}
use native.Mathlib.Omega.{arith}
use lib.ListN.{length, get_or, set, length-set}
use lib.Dec.{leb, ltb}
use borrow.Author.Tests.{leb-true, ltb-true}
use Rattle.refusal.specs.Outcome.{answered}
use Rattle.refusal.proofs.Tests.{both}
use Rattle.days.specs.Dates.{weekday}
use Rattle.days.specs.Ticks.{day, weekday_of}
use Rattle.totals.specs.Totals.{grown}
use Rattle.totals.proofs.GrownLaws.{grown-none, grown-on, grown-one}
use Rattle.zone.specs.declared.rules.Rule.{Rule}
use Rattle.zone.specs.Biases.{in_bias_range}
use Rattle.zone.specs.Ticks.{window_start, window_end, utc_tick}
use Rattle.in_force.specs.Biases.{less_bias}
use Rattle.rows.specs.Row.{check_row}
use Rattle.rows.specs.Search.{has_rule, local_of}
use Rattle.rows.specs.Stretches.{stretch_at}
use Rattle.rows.proofs.StretchLaws.{Stays, stays}
use Rattle.rows.proofs.YearLaws.{in-range}
use Rattle.tally.specs.declared.tallies.Tally.{Tally}
use Rattle.tally.specs.Tallies.{at, in_span, holds}
use Rattle.tally.specs.Booking.{local_weekday, check_run, with_run, book}
use Rattle.tally.proofs.tallies.HoldingLaws.{spanned}
use Rattle.tally.proofs.WalkLaws.{less-on}

-- the local tick that a shows
abbrev pub shown_at : List Rule → ℕ → ℕ
shown_at row a = less_bias a (stretch_at row a).bias

-- from a to before b the bias and the local day stay
abbrev pub in_one_day : List Rule → ℕ → ℕ → Bool
in_one_day row a b = (ltb a b && leb b (stretch_at row a).end) && leb (shown_at row a % day + (b - a)) day

abbrev pub with_day : List Rule → List ℕ → ℕ → ℕ → List ℕ
with_day row totals a b = set totals (weekday_of (shown_at row a)) (get_or totals (weekday_of (shown_at row a)) 0 + (b - a))

-- from a to the last cut
abbrev pub last_cut : ℕ → List ℕ → ℕ
last_cut a [] = a
last_cut a (b ∷ cuts) = last_cut b cuts

abbrev pub in_days : List Rule → ℕ → List ℕ → Bool
in_days row a [] = true
in_days row a (b ∷ cuts) = in_one_day row a b && in_days row b cuts

abbrev pub with_days : List Rule → List ℕ → ℕ → List ℕ → List ℕ
with_days row totals a [] = totals
with_days row totals a (b ∷ cuts) = with_days row (with_day row totals a b) b cuts

-- a run's checks but those of the row
abbrev pub bookable : List Rule → Tally → ℕ → ℕ → Bool
bookable row t a b = (holds t && (in_span (utc_tick a) && in_span (utc_tick b))) && ((leb a b && leb (at t.end) a) && has_rule row a)

record OneDay (row : List Rule) (a b : ℕ) : Type 0 where
  after : a < b
  bias : b ≤ (stretch_at row a).end
  lasts : shown_at row a % day + (b - a) ≤ day

one-day : (row : List Rule) (a b : ℕ) → in_one_day row a b ≡ true → OneDay row a b
one-day row a b e =
    let o = both (ltb a b && leb b (stretch_at row a).end) (leb (shown_at row a % day + (b - a)) day) e in
    let p = both (ltb a b) (leb b (stretch_at row a).end) o.0 in
    record { after = ltb-true a b p.0; bias = leb-true b (stretch_at row a).end p.1; lasts = leb-true (shown_at row a % day + (b - a)) day o.1 }

cut-after : (row : List Rule) (a : ℕ) (cuts : List ℕ) → in_days row a cuts ≡ true → a ≤ last_cut a cuts
cut-after row a [] h = omega arith
cut-after row a (b ∷ cuts) h =
    let o = both (in_one_day row a b) (in_days row b cuts) h in
    omega (arith, (one-day row a b o.0).after, cut-after row b cuts o.1)

module _ (row : List Rule) (ok : check_row row ≡ answered tt) where
  -- all of a part within one local day has its weekday
  module _ (a b : ℕ) (low : window_start ≤ a) (high : b ≤ window_end) (h : OneDay row a b) where
    st : Stays row a (stretch_at row a)
    st = stays row a low (omega (arith, h.after))

    range : in_bias_range (stretch_at row a).bias ≡ true
    range = ap in_bias_range (sym (st.bias a (omega arith) st.after)) ∙ in-range row a ok

    shown-on : (t : ℕ) → a ≤ t → t < b → local_of row t ≡ shown_at row a + (t - a)
    shown-on t i j =
        let e : a + (t - a) ≡ t = omega arith in
        ap (less_bias t) (st.bias t i (omega (arith, h.bias))) ∙ (rw e at (less-on a (t - a) (stretch_at row a).bias range low))

    one-weekday : (t : ℕ) → a ≤ t → t < b → local_weekday row t ≡ weekday_of (shown_at row a)
    unfolding local_weekday
    one-weekday t i j =
        let e : (shown_at row a + (t - a)) / day ≡ shown_at row a / day = omega (arith, h.lasts) in
        ap weekday_of (shown-on t i j) ∙ ap weekday e

  part-grows : (totals : List ℕ) (a b : ℕ) → length totals ≡ 7 → window_start ≤ a → b ≤ window_end → OneDay row a b → grown 7 (local_weekday row) totals a b ≡ with_day row totals a b
  part-grows totals a b len low high h = grown-one 7 (local_weekday row) totals a b (weekday_of (shown_at row a)) len (omega arith) (omega (arith, h.after)) (one-weekday a b low high h)

  -- cut by cut
  cuts-grow : (cuts totals : List ℕ) (a : ℕ) → length totals ≡ 7 → window_start ≤ a → last_cut a cuts ≤ window_end → in_days row a cuts ≡ true
      → grown 7 (local_weekday row) totals a (last_cut a cuts) ≡ with_days row totals a cuts
  cuts-grow [] totals a len low high h = grown-none 7 (local_weekday row) totals a len
  cuts-grow (b ∷ cuts) totals a len low high h =
      let o = both (in_one_day row a b) (in_days row b cuts) h in
      let d = one-day row a b o.0 in
      let l = cut-after row b cuts o.1 in
      sym (grown-on 7 (local_weekday row) totals a b (last_cut b cuts) (omega (arith, d.after)) l)
      ∙ ap (λ (z : List ℕ). grown 7 (local_weekday row) z b (last_cut b cuts)) (part-grows totals a b len low (omega arith) d)
      ∙ cuts-grow cuts (with_day row totals a b) b (simp length-set len) (omega (arith, d.after)) high o.1

  pub book-computes : (t : Tally) (a : ℕ) (cuts : List ℕ) → length t.totals ≡ 7 → bookable row t a (last_cut a cuts) ≡ true → in_days row a cuts ≡ true
      → book row t (utc_tick a) (utc_tick (last_cut a cuts)) ≡ answered (record { end = utc_tick (last_cut a cuts); totals = with_days row t.totals a cuts })
  unfolding book check_run with_run
  book-computes t a cuts len e h =
      let b : ℕ = last_cut a cuts in
      let x = both (holds t && (in_span (utc_tick a) && in_span (utc_tick b))) ((leb a b && leb (at t.end) a) && has_rule row a) e in
      let y = both (holds t) (in_span (utc_tick a) && in_span (utc_tick b)) x.0 in
      let z = both (leb a b && leb (at t.end) a) (has_rule row a) x.1 in
      let s = both (in_span (utc_tick a)) (in_span (utc_tick b)) y.1 in
      let g = cuts-grow cuts t.totals a len (spanned (utc_tick a) s.0).start (spanned (utc_tick b) s.1).stop h in
      rw (ok, y.0, y.1, z.0, z.1, g)
