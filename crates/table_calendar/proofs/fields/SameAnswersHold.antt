-- The two calendars give one answer: an answer is the only one that stands for its outcome.
use mathlib.Core.Path.{sym, ◌∙◌}
use Rattle.refusal.proofs.ResultLaws.{only-result}
use Rattle.table_calendar.specs.SameAnswers.{SameAnswers}

-- THE LAW
pub same-answers : SameAnswers
same-answers =
    record {
      same_fields = λ ρ t a b p q. only-result a b (p ∙ sym q);
      same_time = λ ρ f a b p q. only-result a b (p ∙ sym q);
    }
