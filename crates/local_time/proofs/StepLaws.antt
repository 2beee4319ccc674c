-- The steps of the two conversions come to the definitions, and an answer is the only one that stands for what it does.
use Prim.Native.Nat.{ℕ, ◌+◌, ◌-◌, ◌≤◌, ◌<◌}
use mathlib.Core.Path.{◌≡◌, refl, sym, ◌∙◌, ap}
use mathlib.Core.Bool.{Bool, true, false, cond, false≢true, not}
use mathlib.Core.List.{List, [], ◌∷◌, map}
use native.Mathlib.Omega.{arith}
use lib.IntN.{ℤ, pos, negsuc}
use lib.ListN.{length}
use lib.Dec.{leb, ltb, T}
use borrow.Author.Tests.{leb-true, leb-false, ltb-false, le-leb, le-ltb, eq-eqb}
use Rattle.std.specs.Prelude.{Option, Some, None, Result, Ok, Err}
use Rattle.refusal.specs.declared.Refusal.{Refusal}
use Rattle.refusal.specs.Number.{refusal_of}
use Rattle.refusal.specs.Outcome.{Outcome, refused, answered, require, ◌>>=◌, ◌>>◌}
use Rattle.refusal.specs.Results.{outcome_of, result_of}
use Rattle.refusal.proofs.Known.{Known}
use Rattle.refusal.proofs.Numbers.{number-back}
use Rattle.refusal.proofs.OutcomeLaws.{only-answer}
use Rattle.refusal.proofs.ResultLaws.{only-result}
use Rattle.days.specs.Counting.{among}
use Rattle.days.specs.Ticks.{day, year_of, day_in_year}
use Rattle.days.proofs.Counting.{among_none, not-true}
use Rattle.days.proofs.ticks.YearTicks.{same-year}
use Rattle.calendar.specs.Fields.{not_negative}
use Rattle.zone.specs.declared.rules.Rule.{Rule}
use Rattle.zone.specs.declared.ticks.LocalTick.{LocalTick}
use Rattle.zone.specs.declared.ticks.UtcTick.{UtcTick}
use Rattle.zone.specs.Ticks.{window_start, window_end, utc_tick, local_tick}
use Rattle.in_force.specs.declared.shown.UpToFour.{UpToFour}
use Rattle.in_force.specs.Biases.{less_bias}
use Rattle.in_force.specs.Shown.{shown_ticks}
use Rattle.in_force.proofs.shown.WindowLaws.{near-under}
use Rattle.rows.specs.Row.{check_row}
use Rattle.rows.specs.Search.{rule_in_force, is_rule, bias_under, bias_in_force}
use Rattle.rows.proofs.CheckLaws.{row-known}
use Rattle.rows.proofs.SearchLaws.{checked-in-force}
use Rattle.rows.proofs.StepLaws.{row-checked}
use Rattle.local_time.specs.Answers.{of_utc}
use Rattle.local_time.specs.LocalTime.{in_window, utc_to_local, shows, local_to_utc}
use Rattle.local_time.specs.Steps.{Earlier, count_of, check_at, local_by, local_found, local_under, local_in, local_at, as_utc, utc_under, earlier_in, utc_in, is_one_year, utc_in_one_year, utc_found, utc_at, is_refused}
use Rattle.local_time.proofs.LocalLaws.{after_row}
use Rattle.local_time.proofs.UtcLaws.{shows-under, shown-in-row, at-most-four}

-- what the steps find is what the definition says
pub check-is : (row : List Rule) (u : ℕ) → check_at row u ≡ result_of (check_row row)
check-is row u = ap result_of (row-checked row)

-- a row that is not refused passes
pub passes : (row : List Rule) (u : ℕ) → T (not (is_refused (check_at row u))) → check_row row ≡ answered tt
passes row u h = go (check_row row) refl (rw (check-is row u) at h)
  where
    go : (o : Outcome (Unit {0})) → check_row row ≡ o → T (not (is_refused (result_of (check_row row)))) → check_row row ≡ answered tt
    go (answered ok) e t = e
    go (refused n) e t = absurd (rw e at t)

pub count_small : (z : ℤ) → count_of z ≤ 9223372036854775808
unfolding count_of
count_small (negsuc n) = omega arith
count_small (pos n) = go (leb n 9223372036854775807) refl
  where
    go : (b : Bool) → leb n 9223372036854775807 ≡ b → cond b n 9223372036854775807 ≤ 9223372036854775808
    go true e = let g : n ≤ 9223372036854775807 = leb-true n 9223372036854775807 e in omega arith
    go false e = omega arith

-- ---- UTC to local
under-is : (o : Option Rule) (u : ℕ)
    → outcome_of (local_found o u) ≡ (require (is_rule o) 16 >> answered (local_tick (less_bias u (bias_under o u))))
unfolding local_by
under-is None u = refl
under-is (Some r) u = refl

in_is : (row : List Rule) (n : ℕ) → outcome_of (local_in row (cond (leb n 9223372036854775807) n 9223372036854775807))
    ≡ (require (in_window n) 15 >> (require (is_rule (rule_in_force row (year_of n))) 16 >> answered (local_tick (less_bias n (bias_in_force row n)))))
unfolding local_under bias_in_force
in_is row n = go (leb n 9223372036854775807) refl
  where
    go : (b : Bool) → leb n 9223372036854775807 ≡ b → outcome_of (local_in row (cond (leb n 9223372036854775807) n 9223372036854775807))
        ≡ (require (in_window n) 15 >> (require (is_rule (rule_in_force row (year_of n))) 16 >> answered (local_tick (less_bias n (bias_under (rule_in_force row (year_of n)) n)))))
    go true e = rw e (window (in_window n) refl)
      where
        window : (b : Bool) → in_window n ≡ b → outcome_of (local_under ((rule_in_force row (year_of n))) n)
            ≡ (require (in_window n) 15 >> (require (is_rule (rule_in_force row (year_of n))) 16 >> answered (local_tick (less_bias n (bias_under (rule_in_force row (year_of n)) n)))))
        window true f = rw f (under-is (rule_in_force row (year_of n)) n)
        window false f = rw f
    go false e =
        let g : 9223372036854775807 < n = leb-false n 9223372036854775807 e in
        rw (e, le-leb window_start n (omega arith), le-ltb n window_end (omega arith))

signed-local : (row : List Rule) (z : ℤ) → outcome_of (local_in row (count_of z)) ≡ after_row row z
unfolding count_of local_under
signed-local row (pos n) = in_is row n
signed-local row (negsuc n) = refl

pub local-is : (row : List Rule) (t : UtcTick) → outcome_of (local_at row (count_of t.0)) ≡ utc_to_local row t
unfolding utc_to_local
local-is row t = go (check_row row) refl (row-known row)
  where
    go : (o : Outcome (Unit {0})) → check_row row ≡ o → Known (check_row row) → outcome_of (local_at row (count_of t.0)) ≡ utc_to_local row t
    go (refused n) e k = rw (check-is row (count_of t.0), e) (ap refused (rw e at k))
    go (answered ok) e k = rw (check-is row (count_of t.0), e) (signed-local row t.0)

pub only-local : (row : List Rule) (t : UtcTick) (a : Result LocalTick Refusal) → outcome_of a ≡ utc_to_local row t → a ≡ local_at row (count_of t.0)
only-local row t a e = only-result a _ (e ∙ sym (local-is row t))

-- ---- local to UTC
pub one-year-small : (e : Earlier) → is_one_year e ≡ true → e.tick ≤ 9223372036854775807
unfolding is_one_year
one-year-small e h = go (ltb 9223372036854775807 e.tick) refl
  where
    go : (b : Bool) → ltb 9223372036854775807 e.tick ≡ b → e.tick ≤ 9223372036854775807
    go true f = absurd (false≢true (rw f at h))
    go false f = ltb-false 9223372036854775807 e.tick f

pub one-year : (e : Earlier) → is_one_year e ≡ true → year_of (e.tick + day) ≡ year_of (e.tick - day)
unfolding is_one_year
one-year e h =
    let t : ltb 9223372036854775807 e.tick ≡ false = le-ltb 9223372036854775807 e.tick (one-year-small e h) in
    same-year (e.tick - day) (e.tick + day) (leb-true (day_in_year (e.tick - day)) 362 (rw t at h)) (omega arith) (omega arith)

-- up to four ticks are answered as they are
as-utc : (l : List ℕ) → length l ≤ 4 → of_utc (as_utc l) ≡ answered (map utc_tick l)
as-utc [] h = refl
as-utc (a ∷ []) h = refl
as-utc (a ∷ b ∷ []) h = refl
as-utc (a ∷ b ∷ c ∷ []) h = refl
as-utc (a ∷ b ∷ c ∷ d ∷ []) h = refl
as-utc (a ∷ b ∷ c ∷ d ∷ e ∷ l) h = absurd (omega arith)

back : (o : Option Rule) → o ≡ o
back None = refl
back (Some r) = refl

-- where one year is enough, its rule alone says what both would
pub found-is : (row : List Rule) (n : ℕ) → utc_found row n ≡ utc_in row n
unfolding utc_in_one_year utc_under shown_ticks
found-is row n = go (is_one_year (earlier_in row n)) refl
  where
    go : (b : Bool) → is_one_year (earlier_in row n) ≡ b → utc_found row n ≡ utc_in row n
    go true e =
        rw (e, le-ltb 9223372036854775807 n (one-year-small (earlier_in row n) e), eq-eqb (year_of (n - day)) (year_of (n + day)) (sym (one-year (earlier_in row n) e)))
    go false e = rw e

module _ (row : List Rule) (ok : check_row row ≡ answered tt) where
  -- no tick of the window shows a local tick that lies more than a day after the window
  far : (n : ℕ) → window_end + day ≤ n → among (shows row n) window_start window_end ≡ []
  far n h = among_none (shows row n) window_start window_end (λ u a b. not-true (shows row n u) (λ t. near u b (near-under (rule_in_force row (year_of u)) n u (checked-in-force row (year_of u) ok) (sym (shows-under row n u) ∙ t))))
    where
      near : (u : ℕ) → u < window_end → (n - day ≤ u) × (u ≤ n + day) → ⊥
      near u b c = omega (arith, c.0)

  utc-in-is : (n : ℕ) → n ≤ 9223372036854775807 → of_utc (utc_in row n) ≡ answered (map utc_tick (among (shows row n) window_start window_end))
  unfolding utc_under
  utc-in-is n h =
      rw (le-ltb 9223372036854775807 n h, back (rule_in_force row (year_of (n - day))), back (rule_in_force row (year_of (n + day))), shown-in-row row ok n)
      (as-utc (among (shows row n) window_start window_end) (at-most-four row ok n))

  signed : (z : ℤ) → of_utc (utc_in row (count_of z)) ≡ (not_negative z >>= λ n. answered (map utc_tick (among (shows row n) window_start window_end)))
  unfolding count_of utc_under
  signed (negsuc n) = refl
  signed (pos n) = go (leb n 9223372036854775807) refl
    where
      go : (b : Bool) → leb n 9223372036854775807 ≡ b → of_utc (utc_in row (cond (leb n 9223372036854775807) n 9223372036854775807)) ≡ answered (map utc_tick (among (shows row n) window_start window_end))
      go true e = rw e (utc-in-is n (leb-true n 9223372036854775807 e))
      go false e =
          let g : 9223372036854775807 < n = leb-false n 9223372036854775807 e in
          rw (e, far n (omega arith)) (utc-in-is 9223372036854775807 (omega arith) ∙ ap (λ (l : List ℕ). answered (map utc_tick l)) (far 9223372036854775807 (omega arith)))

pub utc-is : (row : List Rule) (l : LocalTick) → of_utc (utc_at row (count_of l.0)) ≡ local_to_utc row l
unfolding local_to_utc
utc-is row l = go (check_row row) refl (row-known row)
  where
    go : (o : Outcome (Unit {0})) → check_row row ≡ o → Known (check_row row) → of_utc (utc_at row (count_of l.0)) ≡ local_to_utc row l
    go (refused n) e k = rw (check-is row (count_of l.0), e) (ap refused (rw e at k))
    go (answered ok) e k = rw (check-is row (count_of l.0), e) (ap of_utc (found-is row (count_of l.0)) ∙ signed row e l.0)

as_answer : Outcome (List UtcTick) → Result (UpToFour UtcTick) Refusal
as_answer (refused n) = Err (refusal_of n)
as_answer (answered []) = Ok UpToFour.None
as_answer (answered (a ∷ [])) = Ok (UpToFour.One a)
as_answer (answered (a ∷ b ∷ [])) = Ok (UpToFour.Two a b)
as_answer (answered (a ∷ b ∷ c ∷ [])) = Ok (UpToFour.Three a b c)
as_answer (answered (a ∷ b ∷ c ∷ d ∷ [])) = Ok (UpToFour.Four a b c d)
as_answer (answered (a ∷ b ∷ c ∷ d ∷ e ∷ l)) = Ok UpToFour.None

utc-back : (a : Result (UpToFour UtcTick) Refusal) → as_answer (of_utc a) ≡ a
unfolding as_answer
utc-back (Ok UpToFour.None) = refl
utc-back (Ok (UpToFour.One a)) = refl
utc-back (Ok (UpToFour.Two a b)) = refl
utc-back (Ok (UpToFour.Three a b c)) = refl
utc-back (Ok (UpToFour.Four a b c d)) = refl
utc-back (Err why) = ap Err (number-back why)

pub only-utc : (row : List Rule) (l : LocalTick) (a : Result (UpToFour UtcTick) Refusal) → of_utc a ≡ local_to_utc row l → a ≡ utc_at row (count_of l.0)
only-utc row l a e = only-answer of_utc as_answer utc-back a _ (e ∙ sym (utc-is row l))
