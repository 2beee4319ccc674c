-- Names are put on a page unit by unit.
use Prim.Native.Nat.{ℕ, ◌≤◌}
use mathlib.Core.Path.{◌≡◌, refl, ◌∙◌}
use mathlib.Core.List.{List, [], ◌∷◌, ◌++◌}
use native.Mathlib.Omega.{arith}
use lib.ListN.{length, get_or}
use Rattle.page.specs.Pages.{extended}
use Rattle.page.proofs.PageLaws.{both}
use Rattle.words.specs.Units.{unit_text, units_text}

-- where the first unit is put on a page, those after it are left to put
pub unit-put : (p unit after : List ℕ) {s q : List ℕ} → s ≡ unit ++ after → length unit ≡ 2 → q ≡ extended p (unit_text (get_or unit 0 0) (get_or unit 1 0))
    → extended q (units_text after) ≡ extended p (units_text s)
unfolding units_text
unit-put p (low ∷ high ∷ []) after e two put = both p _ _ put refl ∙ rw e
unit-put p [] after e two put = absurd (omega arith)
unit-put p (low ∷ []) after e two put = absurd (omega arith)
unit-put p (low ∷ high ∷ more ∷ l) after e two put = absurd (omega arith)

pub no-unit : (l : List ℕ) → length l ≤ 1 → units_text l ≡ []
unfolding units_text
no-unit [] h = refl
no-unit (x ∷ []) h = refl
no-unit (x ∷ y ∷ l) h = absurd (omega arith)
