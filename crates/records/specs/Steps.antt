-- What the code's steps give: parts of the definitions, word for word.
use Rattle.std.specs.Prelude.{ℕ, List, ◌++◌, ℤ}
use Rattle.records.specs.Layout.{bias_bytes}

abbrev pub three_biases : ℤ → ℤ → ℤ → List ℕ
three_biases a b c = bias_bytes a ++ bias_bytes b ++ bias_bytes c
