-- `words::refusals::put_words` meets its contract, arm by arm.
use Rattle.words.proofs.refusals.put_words.Goals as goal

pub returns-in-PastTheBytes : goal.returns-in-PastTheBytes
returns-in-PastTheBytes c = rw c.in-PastTheBytes.is c.put.ensures

pub returns-in-WrongSize : goal.returns-in-WrongSize
returns-in-WrongSize c = rw c.in-WrongSize.is c.put-in-WrongSize.ensures

pub returns-in-HeaderMajor : goal.returns-in-HeaderMajor
returns-in-HeaderMajor c = rw c.in-HeaderMajor.is c.put-in-HeaderMajor.ensures

pub returns-in-HeaderFlags : goal.returns-in-HeaderFlags
returns-in-HeaderFlags c = rw c.in-HeaderFlags.is c.put-in-HeaderFlags.ensures

pub returns-in-NameTooLong : goal.returns-in-NameTooLong
returns-in-NameTooLong c = rw c.in-NameTooLong.is c.put-in-NameTooLong.ensures

pub returns-in-RuleCount : goal.returns-in-RuleCount
returns-in-RuleCount c = rw c.in-RuleCount.is c.put-in-RuleCount.ensures

pub returns-in-UnusedNotZero : goal.returns-in-UnusedNotZero
returns-in-UnusedNotZero c = rw c.in-UnusedNotZero.is c.put-in-UnusedNotZero.ensures

pub returns-in-RuleYear : goal.returns-in-RuleYear
returns-in-RuleYear c = rw c.in-RuleYear.is c.put-in-RuleYear.ensures

pub returns-in-BiasOutOfRange : goal.returns-in-BiasOutOfRange
returns-in-BiasOutOfRange c = rw c.in-BiasOutOfRange.is c.put-in-BiasOutOfRange.ensures

pub returns-in-BadDate : goal.returns-in-BadDate
returns-in-BadDate c = rw c.in-BadDate.is c.put-in-BadDate.ensures

pub returns-in-DatesDoNotMatch : goal.returns-in-DatesDoNotMatch
returns-in-DatesDoNotMatch c = rw c.in-DatesDoNotMatch.is c.put-in-DatesDoNotMatch.ensures

pub returns-in-ActiveRules : goal.returns-in-ActiveRules
returns-in-ActiveRules c = rw c.in-ActiveRules.is c.put-in-ActiveRules.ensures

pub returns-in-NoRoom : goal.returns-in-NoRoom
returns-in-NoRoom c = rw c.in-NoRoom.is c.put-in-NoRoom.ensures

pub returns-in-IllFormedFields : goal.returns-in-IllFormedFields
returns-in-IllFormedFields c = rw c.in-IllFormedFields.is c.put-in-IllFormedFields.ensures

pub returns-in-OutOfRange : goal.returns-in-OutOfRange
returns-in-OutOfRange c = rw c.in-OutOfRange.is c.put-in-OutOfRange.ensures

pub returns-in-BeforeFirstRule : goal.returns-in-BeforeFirstRule
returns-in-BeforeFirstRule c = rw c.in-BeforeFirstRule.is c.put-in-BeforeFirstRule.ensures

pub returns-in-RunOrder : goal.returns-in-RunOrder
returns-in-RunOrder c = rw c.in-RunOrder.is c.put-in-RunOrder.ensures

pub returns-in-BadTally : goal.returns-in-BadTally
returns-in-BadTally c = rw c.in-BadTally.is c.put-in-BadTally.ensures

pub returns-in-LoneSurrogate : goal.returns-in-LoneSurrogate
returns-in-LoneSurrogate c = rw c.in-LoneSurrogate.is c.put-in-LoneSurrogate.ensures

pub returns-in-UnknownRevision : goal.returns-in-UnknownRevision
returns-in-UnknownRevision c = rw c.in-UnknownRevision.is c.put-in-UnknownRevision.ensures
