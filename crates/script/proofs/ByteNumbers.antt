-- The table's numbers fit in a byte.
use Prim.Native.Nat.{◌<◌}
use native.Mathlib.Omega.{arith}
use Rattle.refusal.specs.Number.{number_of}
use Rattle.refusal.specs.declared.Refusal.{Refusal}
use Rattle.refusal.specs.declared.Refusal.TheVariants.{PastTheBytes, WrongSize, HeaderMajor, HeaderFlags, NameTooLong, RuleCount, UnusedNotZero, RuleYear, BiasOutOfRange, BadDate, DatesDoNotMatch, ActiveRules, NoRoom, IllFormedFields, OutOfRange, BeforeFirstRule, RunOrder, BadTally, LoneSurrogate, UnknownRevision}

pub number-below : (r : Refusal) → number_of r < 256
number-below PastTheBytes = omega arith
number-below WrongSize = omega arith
number-below HeaderMajor = omega arith
number-below HeaderFlags = omega arith
number-below NameTooLong = omega arith
number-below RuleCount = omega arith
number-below UnusedNotZero = omega arith
number-below RuleYear = omega arith
number-below BiasOutOfRange = omega arith
number-below BadDate = omega arith
number-below DatesDoNotMatch = omega arith
number-below ActiveRules = omega arith
number-below NoRoom = omega arith
number-below IllFormedFields = omega arith
number-below OutOfRange = omega arith
number-below BeforeFirstRule = omega arith
number-below RunOrder = omega arith
number-below BadTally = omega arith
number-below LoneSurrogate = omega arith
number-below UnknownRevision = omega arith
