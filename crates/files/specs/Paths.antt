-- Names of files as C takes them: 4096 bytes, of which the last is 0.
use Rattle.std.specs.Prelude.{◌≡◌, ℕ, List, slice_index_or}

abbrev pub Ended : List ℕ → Type 0
Ended bytes = slice_index_or bytes 4095 1 ≡ 0
