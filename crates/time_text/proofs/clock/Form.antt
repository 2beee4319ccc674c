-- A text against a template: no longer than it, and each byte fits the template's.
use Prim.Native.Nat.{ℕ, ◌<◌, ◌≤◌}
use mathlib.Core.Path.{◌≡◌, refl, ap}
use mathlib.Core.Bool.{false, ◌&&◌}
use mathlib.Core.List.{List, [], ◌∷◌}
use native.Mathlib.Omega.{arith}
use lib.ListN.{length}
use Rattle.refusal.proofs.Tests.{and-false}
use Rattle.std.specs.List.{list_all, zip}
use Rattle.time_text.specs.Clock.{fits, matches}

pub all_fit : (t s : List ℕ) → length s ≤ length t → list_all (λ (p : ℕ × ℕ). fits p.0 p.1) (zip t s) ≡ matches t s
unfolding matches
all_fit [] [] h = refl
all_fit [] (b ∷ s) h = absurd (omega arith)
all_fit (x ∷ t) [] h = refl
all_fit (x ∷ t) (b ∷ s) h = ap (λ r. fits x b && r) (all_fit t s (omega arith))

pub too_long : (t s : List ℕ) → length t < length s → false ≡ matches t s
unfolding matches
too_long t [] h = absurd (omega arith)
too_long [] (b ∷ s) h = refl
too_long (x ∷ t) (b ∷ s) h = rw (← too_long t s (omega arith), and-false)
