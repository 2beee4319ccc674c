-- What a place that was found says, and the rule there.
use Prim.Native.Nat.{ℕ, ◌<◌}
use mathlib.Core.Path.{◌≡◌, ap, ◌∙◌}
use mathlib.Core.List.{List}
use native.Mathlib.Omega.{arith}
use lib.ListN.{get_or}
use Rattle.std.specs.Prelude.{Option, Some, None}
use Rattle.struct_slices.specs.Places.{element_at}
use Rattle.struct_slices.proofs.LastPlace.{Inside}
use Rattle.zone.specs.declared.rules.Rule.{Rule}
use Rattle.zone.specs.Rules.{no_rule}

pub at-inside : (n : ℕ) (o : Option ℕ) (i : ℕ) → Some i ≡ o → Inside n o → i < n
at-inside n (Some j) i e h = let k : i ≡ j = cc in omega arith
at-inside n None i e h = cc

-- the rule there, where q is the rule at o
pub at-place : (row : List Rule) (o : Option ℕ) (q : Option Rule) (i : ℕ) → element_at no_rule row o ≡ q → Some i ≡ o → Some (get_or row i no_rule) ≡ q
at-place row o q i e h = ap (element_at no_rule row) h ∙ e

pub at-none : (row : List Rule) (o : Option ℕ) (q : Option Rule) → element_at no_rule row o ≡ q → None ≡ o → None ≡ q
at-none row o q e h = ap (element_at no_rule row) h ∙ e
