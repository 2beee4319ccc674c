-- Lent memory while a record is put into it field by field.
use Rattle.std.specs.Prelude.{ℕ, List}
use Rattle.std.proofs.lemmas.List.Edits.{sets}

-- s after the bytes b were stored one by one, the first at the place at
unfoldable pub stored : List ℕ → ℕ → List ℕ → List ℕ
stored s at b = sets s at b
