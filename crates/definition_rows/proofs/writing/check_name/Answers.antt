-- `writing::check_name` meets its contract: an odd length, one that is too great, then the units.
use mathlib.Core.Path.{sym, ap, ◌∙◌}
use mathlib.Core.Bool.{Bool, not}
use Rattle.refusal.specs.Outcome.{require}
use Rattle.refusal.proofs.Tests.{failed, passed}
use Rattle.definition_rows.proofs.writing.Ways.{odd, long, looked-through}
use Rattle.definition_rows.proofs.writing.check_name.Goals as goal

pub returns-then-name-ne0 : goal.returns-then-name-ne0
returns-then-name-ne0 c = odd c.args.name.now c.if-name-ne0.true

pub returns-then-not-is_name_length : goal.returns-then-not-is_name_length
returns-then-not-is_name_length c =
    long c.args.name.now c.if-name-ne0.false (failed c.is_name_length.ensures c.if-not-is_name_length.true)

pub returns-then-has_lone_surrogate : goal.returns-then-has_lone_surrogate
returns-then-has_lone_surrogate c =
    ap (λ (lone : Bool). require (not lone) 20) (sym c.if-has_lone_surrogate.true)
    ∙ looked-through c.args.name.now c.if-name-ne0.false (passed c.is_name_length.ensures c.if-not-is_name_length.false) _ c.has_lone_surrogate.ensures

pub returns : goal.returns
returns c =
    ap (λ (lone : Bool). require (not lone) 20) (sym c.if-has_lone_surrogate.false)
    ∙ looked-through c.args.name.now c.if-name-ne0.false (passed c.is_name_length.ensures c.if-not-is_name_length.false) _ c.has_lone_surrogate.ensures
