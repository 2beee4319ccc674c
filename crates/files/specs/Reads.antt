-- What a read of a file gave.
use Rattle.std.specs.Prelude.{ℕ, List}
use Rattle.files.specs.declared.whole.FileRead.{FileRead}
use Rattle.files.specs.declared.whole.FileRead.TheVariants.{Whole, TooLong}

abbrev pub bytes_of : FileRead → List ℕ
bytes_of (Whole bytes) = bytes.now
bytes_of (TooLong bytes) = bytes.now
