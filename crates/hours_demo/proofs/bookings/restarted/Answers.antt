-- Reading the saved record of a tally that holds gives the tally.
use Rattle.std.proofs.Common.{rules, ℕ, ◌≡◌, ap, ◌∙◌, refl, List, length, replicate}
use Rattle.tally.specs.Saved.{read_tally}
use Rattle.tally.specs.Answers.{or_else, no_tally}
use Rattle.hours_demo.proofs.RestartLaws.{again}
use Rattle.hours_demo.proofs.bookings.restarted.Goals as goal

pub returns : goal.returns
returns c h =
    let t = c.args.tally in
    let seven : length t.totals ≡ 7 = search rules in
    c.read.ensures.1
    ∙ ap (λ (s : List ℕ). or_else (read_tally s) no_tally) c.save.ensures.2
    ∙ again t seven h (replicate 68 0) refl
