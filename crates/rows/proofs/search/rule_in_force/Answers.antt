-- `rows::search::rule_in_force` meets its contract: the rule at the last place not after the year.
use Rattle.std.proofs.Common.{length, ◌<◌, rules, ap, ◌∙◌}
use Rattle.struct_slices.specs.Places.{element_at}
use Rattle.struct_slices.proofs.LastPlace.{last-below}
use Rattle.zone.specs.Rules.{no_rule}
use Rattle.rows.specs.Search.{not_after}
use Rattle.rows.proofs.SearchLaws.{rule-says}
use Rattle.rows.proofs.search.rule_in_force.Goals as goal

pub bounds-row-place : goal.bounds-row-place
bounds-row-place c = rw (← c.in_ok-place.ensures) at (last-below (λ e. not_after e c.args.year) c.args.row.now)

pub offset_bounds-row-place : goal.offset_bounds-row-place
offset_bounds-row-place c =
    let inside : c.in_ok-place.place < length c.args.row.now = rw (← c.in_ok-place.ensures) at (last-below (λ e. not_after e c.args.year) c.args.row.now) in
    search rules

pub returns : goal.returns
returns c = ap (element_at no_rule c.args.row.now) c.in_ok-place.ensures ∙ rule-says c.args.row.now c.args.year

pub returns-in_err-place : goal.returns-in_err-place
returns-in_err-place c = rw c.from_residual.ensures (ap (element_at no_rule c.args.row.now) c.in_err-place.ensures ∙ rule-says c.args.row.now c.args.year)
