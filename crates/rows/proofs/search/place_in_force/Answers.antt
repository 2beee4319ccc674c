-- `rows::search::place_in_force` meets its contract: the search goes from the back.
use Rattle.std.proofs.Common.{sym, rules}
use Rattle.struct_slices.proofs.LastPlace.{last-at, last-none}
use Rattle.zone.specs.Rules.{no_rule}
use Rattle.rows.specs.Search.{not_after}
use Rattle.rows.proofs.search.place_in_force.Goals as goal

pub returns : goal.returns
returns c = sym (last-at (λ e. not_after e c.args.year) c.args.row.now c.in_ok-place.place no_rule (search rules) (search rules) (search rules))

pub returns-in_err-place : goal.returns-in_err-place
returns-in_err-place c = rw c.from_residual.ensures (sym (last-none (λ e. not_after e c.args.year) c.args.row.now no_rule (search rules)))
