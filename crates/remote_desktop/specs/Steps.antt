-- What the code's steps give: parts of the definitions, word for word.
use Rattle.std.specs.Prelude.{ℕ, List, ◌++◌, ℤ}
use Rattle.zone.specs.declared.dates.SystemTime.{SystemTime}
use Rattle.records.specs.Layout.{date_bytes, bias_bytes}

-- a name, a date and a bias
abbrev pub half_bytes : List ℕ → SystemTime → ℤ → List ℕ
half_bytes name date bias = name ++ date_bytes date ++ bias_bytes bias
