-- A number and its sign.
use Prim.Native.Nat.{ℕ, ◌-◌}
use mathlib.Core.Path.{◌≡◌, refl}
use mathlib.Core.List.{List, [], ◌∷◌}
use native.Mathlib.Omega.{arith}
use lib.Dec.{eqb}
use lib.ListN.{length, get_or, take, drop, length-drop}
use lib.Pointwise.{pointwise}
use lib.Seq.{take_all}
use Rattle.std.specs.Prelude.{nat_eq, Option, Some, None, Ok, Err}
use Rattle.std.specs.Option.{ok_or}
use Rattle.refusal.proofs.Tests.{and-true}
use Rattle.time_text.specs.declared.faults.TextFault.{TextFault}
use Rattle.time_text.specs.declared.faults.TextFault.TheVariants.{NotATime}

-- a number, or none of the kind
pub a_number : (o : Option ℕ) (n : ℕ) → Ok n ≡ ok_or o NotATime → o ≡ Some n
a_number (Some m) n e = cc
a_number None n e = cc

pub no_number : (o : Option ℕ) (why : TextFault) → Err why ≡ ok_or o NotATime → (o ≡ None) × (why ≡ NotATime)
no_number (Some m) why e = (cc, cc)
no_number None why e = (refl, cc)

-- a sign in front
pub first_byte : (s : List ℕ) → pointwise nat_eq (take 1 s) (45 ∷ []) ≡ eqb (get_or s 0 0) 45
first_byte [] = refl
first_byte (b ∷ s) = and-true (eqb b 45)

-- from a place to the end
pub to_end : (s : List ℕ) (a : ℕ) → take (length s - a) (drop a s) ≡ drop a s
to_end s a = take_all (length s - a) (drop a s) (rw length-drop (omega arith))
