-- Answers on definitions as C sees them: the refusal's number first, 0 for none, and 0 beside a refusal.
use Rattle.std.specs.Prelude.{ℕ, cond, List, length, eqb}
use Rattle.refusal.specs.Outcome.{Outcome, refused, answered}
use Rattle.answers_for_c.specs.declared.definitions.CountForC.{CountForC}
use Rattle.answers_for_c.specs.declared.definitions.Part.{Part}

abbrev pub count_for_c : Outcome ℕ → CountForC
count_for_c (answered n) = record { refusal = 0; count = n }
count_for_c (refused n) = record { refusal = n; count = 0 }

-- where a definition's name of this length stands: at place 8 of the bytes; an empty one is at 0
abbrev pub part_of : ℕ → Part
part_of n = record { at = cond (eqb n 0) 0 8; length = n }

abbrev pub part_for_c : List ℕ → Part
part_for_c name = part_of (length name)
