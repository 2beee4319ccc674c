-- Texts as lists of bytes. All of them are ASCII.
use Rattle.std.specs.Prelude.{ℕ, List, [], ◌∷◌}
use Prim.Native.Char.{Char, code}
use Prim.Native.String.{String, [] as none, ◌∷◌ as ◌then◌}

abbrev pub byte : Char → ℕ
byte c = code c

abbrev pub ascii : String → List ℕ
ascii none = []
ascii (c then s) = byte c ∷ ascii s
