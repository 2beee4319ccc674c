-- Document 00's demand of local to UTC, said of the definition: the list holds exactly the ticks whose local tick is the one asked for, each once, earliest first.
use Prim.Native.Nat.{ℕ, ◌≤◌, ◌<◌}
use mathlib.Core.Path.{◌≡◌, sym, ◌∙◌, ap}
use mathlib.Core.Bool.{Bool, true, ◌&&◌}
use mathlib.Core.List.{List, map}
use lib.IntN.{ℤ, pos, negsuc}
use lib.ListN.{length}
use lib.Dec.{eqb}
use borrow.Author.Tests.{le-leb, lt-ltb, eqb-true, eq-eqb}
use Rattle.refusal.specs.Outcome.{Outcome, refused, answered}
use Rattle.refusal.proofs.Tests.{both}
use Rattle.days.specs.Counting.{among, In, Rises}
use Rattle.days.proofs.Counting.{among_in, in-among, among-rises}
use Rattle.zone.specs.declared.rules.Rule.{Rule}
use Rattle.zone.specs.declared.ticks.LocalTick.{LocalTick}
use Rattle.zone.specs.Ticks.{window_start, window_end, utc_tick, local_tick}
use Rattle.rows.specs.Row.{check_row}
use Rattle.rows.specs.Search.{has_rule, local_of}
use Rattle.local_time.specs.LocalTime.{utc_to_local, shows, local_to_utc}
use Rattle.local_time.proofs.UtcLaws.{at-most-four}

-- u is a tick of the window, has a rule, and UTC to local answers n for it
pub record ShowsLocal (row : List Rule) (n u : ℕ) : Type 0 where
  pub from : window_start ≤ u
  pub before : u < window_end
  pub rule : has_rule row u ≡ true
  pub local : utc_to_local row (utc_tick u) ≡ answered (local_tick n)

-- what local to UTC answers for n
pub record AllShown (row : List Rule) (n : ℕ) : Type 0 where
  pub list : List ℕ
  pub answer : local_to_utc row (local_tick n) ≡ answered (map utc_tick list)
  pub each : (u : ℕ) → In u list → ShowsLocal row n u
  pub all : (u : ℕ) → ShowsLocal row n u → In u list
  pub rises : Rises list
  pub four : length list ≤ 4

-- the number in an answer
abbrev size : ℤ → ℕ
size (pos n) = n
size (negsuc n) = n

abbrev number : Outcome LocalTick → ℕ
number (answered t) = size t.0
number (refused n) = n

same-tick : (a b : ℕ) → answered (local_tick a) ≡ answered (local_tick b) → a ≡ b
same-tick a b e = ap number e

module _ (row : List Rule) (ok : check_row row ≡ answered tt) where
  -- UTC to local of a tick of the window that has a rule
  local-of : (u : ℕ) → window_start ≤ u → u < window_end → has_rule row u ≡ true → utc_to_local row (utc_tick u) ≡ answered (local_tick (local_of row u))
  unfolding utc_to_local
  local-of u a b h = rw (ok, le-leb window_start u a, lt-ltb u window_end b, h)

  pub all_shown : (n : ℕ) → AllShown row n
  unfolding local_to_utc
  all_shown n =
      record {
        list = among (shows row n) window_start window_end;
        answer = rw ok;
        each = λ u m.
            let i = in-among (shows row n) window_start window_end u m in
            let s = both (has_rule row u) (eqb (local_of row u) n) i.2 in
            record { from = i.0; before = i.1; rule = s.0; local = local-of u i.0 i.1 s.0 ∙ ap (λ (l : ℕ). answered (local_tick l)) (eqb-true (local_of row u) n s.1) };
        all = λ u s.
            among_in (shows row n) window_start window_end u s.from s.before
            (ap (λ (b : Bool). b && eqb (local_of row u) n) s.rule ∙ eq-eqb (local_of row u) n (same-tick (local_of row u) n (sym (local-of u s.from s.before s.rule) ∙ s.local)));
        rises = among-rises (shows row n) window_start window_end;
        four = at-most-four row ok n;
      }
