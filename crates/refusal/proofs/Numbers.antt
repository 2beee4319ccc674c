-- Each refusal has a number of its own.
use Prim.Native.Nat.{ℕ}
use mathlib.Core.Path.{◌≡◌, refl, sym, ap, ◌∙◌}
use native.Mathlib.Omega.{arith}
use Rattle.refusal.specs.declared.Refusal.{Refusal}
use Rattle.refusal.specs.declared.Refusal.TheVariants.{PastTheBytes, WrongSize, HeaderMajor, HeaderFlags, NameTooLong, RuleCount, UnusedNotZero, RuleYear, BiasOutOfRange, BadDate, DatesDoNotMatch, ActiveRules, NoRoom, IllFormedFields, OutOfRange, BeforeFirstRule, RunOrder, BadTally, LoneSurrogate, UnknownRevision}
use Rattle.refusal.specs.Number.{number_of, refusal_of}

pub number-back : (r : Refusal) → refusal_of (number_of r) ≡ r
number-back PastTheBytes = refl
number-back WrongSize = refl
number-back HeaderMajor = refl
number-back HeaderFlags = refl
number-back NameTooLong = refl
number-back RuleCount = refl
number-back UnusedNotZero = refl
number-back RuleYear = refl
number-back BiasOutOfRange = refl
number-back BadDate = refl
number-back DatesDoNotMatch = refl
number-back ActiveRules = refl
number-back NoRoom = refl
number-back IllFormedFields = refl
number-back OutOfRange = refl
number-back BeforeFirstRule = refl
number-back RunOrder = refl
number-back BadTally = refl
number-back LoneSurrogate = refl
number-back UnknownRevision = refl

-- THE LAW: no refusal has number 19. A refused call hands over a refusal, or its number, so no call gives 19.
pub no-19 : (r : Refusal) → number_of r ≡ 19 → ⊥
no-19 r e =
    let q : r ≡ PastTheBytes = sym (number-back r) ∙ ap refusal_of e in
    let z : ◌≡◌ {A = ℕ} 1 19 = sym (ap number_of q) ∙ e in
    absurd (omega arith)
