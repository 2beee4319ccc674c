-- A tally, or a refusal with the tally that stands beside it, as C sees it.
use mathlib.Core.Path.{◌≡◌, refl, ap, ◌∙◌}
use Rattle.refusal.specs.Outcome.{Outcome, refused, answered}
use Rattle.tally.specs.declared.tallies.Tally.{Tally}
use Rattle.tally.specs.declared.tallies.Answer.{Answer}
use Rattle.tally.specs.Answers.{of_tally, or_else}
use Rattle.answers_for_c.specs.Tallies.{tally_for_c}

beside : (o : Outcome Tally) (t : Tally) → tally_for_c o (or_else o t) ≡ tally_for_c o t
beside (answered new) t = refl
beside (refused n) t = refl

pub for-c : (r : Answer) {o : Outcome Tally} (t : Tally) → of_tally r ≡ o → r.tally ≡ or_else o t → tally_for_c (of_tally r) r.tally ≡ tally_for_c o t
for-c r {o} t e f = ap (λ (p : Outcome Tally). tally_for_c p r.tally) e ∙ ap (tally_for_c o) f ∙ beside o t
