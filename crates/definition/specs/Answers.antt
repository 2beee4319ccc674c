-- What the steps of a reading stand for.
use Rattle.std.specs.Prelude.{true, [], ◌∷◌, Result, Ok, Err}
use Rattle.refusal.specs.Number.{number_of}
use Rattle.refusal.specs.Outcome.{Outcome, refused, answered}
use Rattle.refusal.specs.declared.Refusal.{Refusal}
use Rattle.definition.specs.declared.rules.KeptRule.{KeptRule}
use Rattle.definition.specs.declared.rules.One.{One}
use Rattle.definition.specs.Definition.{Kept}

abbrev pub kept_one : KeptRule → Kept
kept_one k = record { rules = k.rule ∷ []; agree = k.agree; end = k.end }

-- a rule that is kept, or only the place after one that is skipped
abbrev pub one_of : One → Kept
one_of (One.Kept k) = kept_one k
one_of (One.Skipped end) = record { rules = []; agree = true; end = end }

abbrev pub of_one : Result One Refusal → Outcome Kept
of_one (Ok one) = answered (one_of one)
of_one (Err why) = refused (number_of why)
