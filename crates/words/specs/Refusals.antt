-- Refusals in the words of document 01's table; 20 and 22 in document 02's (R-2, R-9).
use Rattle.std.specs.Prelude.{ℕ, List, ◌++◌}
use Prim.Native.String.{String}
use Rattle.refusal.specs.declared.Refusal.{Refusal}
use Rattle.refusal.specs.declared.Refusal.TheVariants.{PastTheBytes, WrongSize, HeaderMajor, HeaderFlags, NameTooLong, RuleCount, UnusedNotZero, RuleYear, BiasOutOfRange, BadDate, DatesDoNotMatch, ActiveRules, NoRoom, IllFormedFields, OutOfRange, BeforeFirstRule, RunOrder, BadTally, LoneSurrogate, UnknownRevision}
use Rattle.refusal.specs.Number.{number_of}
use Rattle.ascii.specs.Text.{ascii}
use Rattle.page.specs.Numbers.{decimal_text}

-- the table's words; at 17 what a and b are is added, 20 has the heading and the sentence of R-2, and 22 says which numbers R-9 has
abbrev pub words_of : Refusal → String
words_of PastTheBytes = "a field, the header's stated size or a rule's stated size runs past the bytes"
words_of WrongSize = "a size is wrong, a fixed record has another length, bytes follow, or a name to be written is an odd number of bytes"
words_of HeaderMajor = "header major is not 2"
words_of HeaderFlags = "header flags are not 0x0002"
words_of NameTooLong = "name above 260 units"
words_of RuleCount = "rule count 0 or above 1,024"
words_of UnusedNotZero = "X not zero"
words_of RuleYear = "rule year above 30827, or not above that of the kept rule before"
words_of BiasOutOfRange = "a bias that counts is out of range"
words_of BadDate = "a set date breaks its rule"
words_of DatesDoNotMatch = "one date set; or of two set dates one with a year and one without, or two years"
words_of ActiveRules = "not exactly one active rule, or the two bits differ"
words_of NoRoom = "the row or the output is too short"
words_of IllFormedFields = "fields ill formed"
words_of OutOfRange = "TIME negative, result not expressible, UTC tick outside the window, local tick negative"
words_of BeforeFirstRule = "the tick, or a run's start, lies before the first rule's year"
words_of RunOrder = "b before a, or a before the tally's end (a run is from a to before b)"
words_of BadTally = "saved record of another length or kind, or a tally that does not hold"
words_of LoneSurrogate = "name with half a character: a high surrogate not directly followed by a low one, or a low one with no high one directly before it"
words_of UnknownRevision = "revision number neither 10 nor 12"

-- refused 3: header major is not 2
unfoldable pub refusal_text : Refusal → List ℕ
refusal_text why = ascii "refused " ++ decimal_text (number_of why) ++ ascii ": " ++ ascii (words_of why) ++ ascii "\n"
