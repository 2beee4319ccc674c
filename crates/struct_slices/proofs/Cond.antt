-- A choice by a test that is known. Assumes nothing.
use mathlib.Core.Path.{◌≡◌, refl}
use mathlib.Core.Bool.{Bool, true, false, not, cond}
use lib.Dec.{T}

pub cond-on : {A : Type 0} (b : Bool) (u v : A) → T b → cond b u v ≡ u
cond-on true u v on = refl
cond-on false u v on = absurd on

pub cond-off : {A : Type 0} (b : Bool) (u v : A) → T (not b) → cond b u v ≡ v
cond-off true u v off = absurd off
cond-off false u v off = refl
