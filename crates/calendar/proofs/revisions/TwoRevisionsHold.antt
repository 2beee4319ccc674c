-- What revision 1.0 changes, and that nothing else differs: second 60 alone meets another test.
use Prim.Native.Nat.{ℕ, zero, suc, ◌<◌}
use mathlib.Core.Path.{◌≡◌, refl, sym, ap, ◌∙◌}
use mathlib.Core.Bool.{Bool, true, false, ◌&&◌}
use native.Mathlib.Omega.{arith}
use lib.IntN.{ℤ, pos, negsuc}
use lib.Dec.{leb}
use borrow.Author.Tests.{leb-false, lt-leb, ne_eqb}
use Rattle.refusal.specs.Outcome.{refused}
use Rattle.refusal.proofs.Tests.{and-false}
use Rattle.days.specs.Months.{days_in_month}
use Rattle.calendar.specs.declared.fields.TimeFields.{TimeFields}
use Rattle.calendar.specs.declared.fields.Parts.{Parts}
use Rattle.calendar.specs.Ranges.{within}
use Rattle.calendar.specs.Revisions.{revision10, revision12, is_revision}
use Rattle.calendar.specs.Absolute.{is_absolute}
use Rattle.calendar.specs.Fields.{fields_to_time}
use Rattle.calendar.specs.Steps.{part_of, parts_of, is_second, is_formed}
use Rattle.calendar.specs.TwoRevisions.{TwoRevisions}
use Rattle.calendar.proofs.fields.Formed.{one-test, unknown-revision}

-- ---- second 60
-- a field that is not 60 is no 60 unsigned
not-60 : (z : ℤ) → (z ≡ pos 60 → ⊥) → part_of z ≡ 60 → ⊥
not-60 (pos n) h e = h (ap pos e)
not-60 (negsuc n) h e = omega arith

second-same : (p : Parts) → (p.second ≡ 60 → ⊥) → is_second revision10 p ≡ is_second revision12 p
second-same p h = go (leb p.second 59) refl
  where
    go : (b : Bool) → leb p.second 59 ≡ b → is_second revision10 p ≡ is_second revision12 p
    go true e = rw e
    go false e =
        let g : 59 < p.second = leb-false p.second 59 e in
        rw (lt-leb p.second 60 (omega arith), and-false _)

second-60 : (p : Parts) → p.second ≡ 60 → is_second revision10 p ≡ false
second-60 p h = rw h

-- every other test, which is the same by both
abbrev others : Parts → Bool
others p =
    within 1601 32767 p.year
    && within 1 12 p.month
    && within 1 (days_in_month p.year p.month) p.day
    && within 0 23 p.hour
    && within 0 59 p.minute
    && within 0 999 p.milliseconds

formed-same : (p : Parts) → (p.second ≡ 60 → ⊥) → is_formed revision10 p ≡ is_formed revision12 p
unfolding is_formed
formed-same p h = ap (λ (b : Bool). others p && b) (second-same p h)

formed-60 : (p : Parts) → p.second ≡ 60 → is_formed revision10 p ≡ false
unfolding is_formed
formed-60 p h = ap (λ (b : Bool). others p && b) (second-60 p h) ∙ and-false (others p)

part-second : (f : TimeFields) → (parts_of f).second ≡ part_of f.second
unfolding parts_of
part-second f = refl

time-same : (f : TimeFields) → (f.second ≡ pos 60 → ⊥) → fields_to_time revision10 f ≡ fields_to_time revision12 f
time-same f h =
    let n : (parts_of f).second ≡ 60 → ⊥ = λ e. not-60 f.second h (sym (part-second f) ∙ e) in
    one-test revision10 f ∙ rw (formed-same (parts_of f) n) (sym (one-test revision12 f))

time-60 : (f : TimeFields) → f.second ≡ pos 60 → fields_to_time revision10 f ≡ refused 14
time-60 f h = one-test revision10 f ∙ rw (formed-60 (parts_of f) (part-second f ∙ ap part_of h))

-- ---- zero
absolute-same : (t : ℤ) → (t ≡ pos 0 → ⊥) → is_absolute revision10 t ≡ is_absolute revision12 t
absolute-same (pos zero) h = absurd (h refl)
absolute-same (pos (suc n)) h = refl
absolute-same (negsuc n) h = refl

-- ---- any other number
neither : (ρ : ℕ) → (ρ ≡ revision10 → ⊥) → (ρ ≡ revision12 → ⊥) → is_revision ρ ≡ false
neither ρ a b = rw (ne_eqb ρ revision10 a, ne_eqb ρ revision12 b)

-- THE LAW
pub two-revisions : TwoRevisions
two-revisions =
    record {
      same_fields = λ t. refl;
      same_time = time-same;
      same_absolute = absolute-same;
      second60 = time-60;
      zero_absolute = refl;
      zero_interval = refl;
      other_fields = λ ρ a b t. rw (neither ρ a b);
      other_time = λ ρ a b f. sym (unknown-revision ρ f 22 (rw (neither ρ a b)));
      other_absolute = λ ρ a b t. rw (neither ρ a b);
    }
