-- `definition::header::read_header` meets its contract: each way out is one law of `Ways`, handed the tests before it.
use mathlib.Core.Path.{refl, sym, ◌∙◌}
use Rattle.refusal.proofs.Tests.{failed, passed}
use Rattle.definition.proofs.header.Ways.{no-major, other-major, no-flags, other-flags, no-units, too_long, no_name, lone, wrong_size, no-count, other-count, past_bytes, header_is}
use Rattle.definition.proofs.header.read_header.Goals as goal

pub returns-then-bytes-lt1 : goal.returns-then-bytes-lt1
returns-then-bytes-lt1 c =
    no-major c.args.bytes.now
    c.if-bytes-lt1.true

pub returns-then-bytes-ne2 : goal.returns-then-bytes-ne2
returns-then-bytes-ne2 c =
    other-major c.args.bytes.now
    c.if-bytes-lt1.false
    c.if-bytes-ne2.true

pub returns-then-bytes-lt6 : goal.returns-then-bytes-lt6
returns-then-bytes-lt6 c =
    no-flags c.args.bytes.now
    c.if-bytes-lt1.false
    c.if-bytes-ne2.false
    c.if-bytes-lt6.true

pub returns-then-flags-ne2 : goal.returns-then-flags-ne2
returns-then-flags-ne2 c =
    other-flags c.args.bytes.now
    c.if-bytes-lt1.false
    c.if-bytes-ne2.false
    c.if-bytes-lt6.false
    _ c.read-flags.ensures c.if-flags-ne2.true

pub returns-then-bytes-lt8 : goal.returns-then-bytes-lt8
returns-then-bytes-lt8 c =
    no-units c.args.bytes.now
    c.if-bytes-lt1.false
    c.if-bytes-ne2.false
    c.if-bytes-lt6.false
    _ c.read-flags.ensures c.if-flags-ne2.false
    c.if-bytes-lt8.true

pub returns-then-not-is_name_length : goal.returns-then-not-is_name_length
returns-then-not-is_name_length c =
    too_long c.args.bytes.now
    c.if-bytes-lt1.false
    c.if-bytes-ne2.false
    c.if-bytes-lt6.false
    _ c.read-flags.ensures c.if-flags-ne2.false
    c.if-bytes-lt8.false
    _ c.read-units.ensures (failed c.is_name_length.ensures c.if-not-is_name_length.true)

pub returns-then-bytes-units : goal.returns-then-bytes-units
returns-then-bytes-units c =
    no_name c.args.bytes.now
    c.if-bytes-lt1.false
    c.if-bytes-ne2.false
    c.if-bytes-lt6.false
    _ c.read-flags.ensures c.if-flags-ne2.false
    c.if-bytes-lt8.false
    _ c.read-units.ensures (passed c.is_name_length.ensures c.if-not-is_name_length.false)
    c.if-bytes-units.true

pub returns-then-has_lone_surrogate : goal.returns-then-has_lone_surrogate
returns-then-has_lone_surrogate c =
    lone c.args.bytes.now
    c.if-bytes-lt1.false
    c.if-bytes-ne2.false
    c.if-bytes-lt6.false
    _ c.read-flags.ensures c.if-flags-ne2.false
    c.if-bytes-lt8.false
    _ c.read-units.ensures (passed c.is_name_length.ensures c.if-not-is_name_length.false)
    c.if-bytes-units.false
    (sym c.has_lone_surrogate.ensures ∙ c.if-has_lone_surrogate.true)

pub returns-then-not-size_ok : goal.returns-then-not-size_ok
returns-then-not-size_ok c =
    wrong_size c.args.bytes.now
    c.if-bytes-lt1.false
    c.if-bytes-ne2.false
    c.if-bytes-lt6.false
    _ c.read-flags.ensures c.if-flags-ne2.false
    c.if-bytes-lt8.false
    _ c.read-units.ensures (passed c.is_name_length.ensures c.if-not-is_name_length.false)
    c.if-bytes-units.false
    (sym c.has_lone_surrogate.ensures ∙ c.if-has_lone_surrogate.false)
    _ _ refl c.read-size.ensures (failed c.size_ok.ensures c.if-not-size_ok.true)

pub returns-then-bytes-units-2 : goal.returns-then-bytes-units-2
returns-then-bytes-units-2 c =
    no-count c.args.bytes.now
    c.if-bytes-lt1.false
    c.if-bytes-ne2.false
    c.if-bytes-lt6.false
    _ c.read-flags.ensures c.if-flags-ne2.false
    c.if-bytes-lt8.false
    _ c.read-units.ensures (passed c.is_name_length.ensures c.if-not-is_name_length.false)
    c.if-bytes-units.false
    (sym c.has_lone_surrogate.ensures ∙ c.if-has_lone_surrogate.false)
    _ _ refl c.read-size.ensures (passed c.size_ok.ensures c.if-not-size_ok.false)
    c.if-bytes-units-2.true

pub returns-then-not-is_rule_count : goal.returns-then-not-is_rule_count
returns-then-not-is_rule_count c =
    other-count c.args.bytes.now
    c.if-bytes-lt1.false
    c.if-bytes-ne2.false
    c.if-bytes-lt6.false
    _ c.read-flags.ensures c.if-flags-ne2.false
    c.if-bytes-lt8.false
    _ c.read-units.ensures (passed c.is_name_length.ensures c.if-not-is_name_length.false)
    c.if-bytes-units.false
    (sym c.has_lone_surrogate.ensures ∙ c.if-has_lone_surrogate.false)
    _ _ refl c.read-size.ensures (passed c.size_ok.ensures c.if-not-size_ok.false)
    c.if-bytes-units-2.false
    _ c.read-count.ensures (failed c.is_rule_count.ensures c.if-not-is_rule_count.true)

pub returns-then-bytes-size : goal.returns-then-bytes-size
returns-then-bytes-size c =
    past_bytes c.args.bytes.now
    c.if-bytes-lt1.false
    c.if-bytes-ne2.false
    c.if-bytes-lt6.false
    _ c.read-flags.ensures c.if-flags-ne2.false
    c.if-bytes-lt8.false
    _ c.read-units.ensures (passed c.is_name_length.ensures c.if-not-is_name_length.false)
    c.if-bytes-units.false
    (sym c.has_lone_surrogate.ensures ∙ c.if-has_lone_surrogate.false)
    _ _ refl c.read-size.ensures (passed c.size_ok.ensures c.if-not-size_ok.false)
    c.if-bytes-units-2.false
    _ c.read-count.ensures (passed c.is_rule_count.ensures c.if-not-is_rule_count.false)
    c.if-bytes-size.true

pub returns : goal.returns
returns c =
    header_is c.args.bytes.now
    c.if-bytes-lt1.false
    c.if-bytes-ne2.false
    c.if-bytes-lt6.false
    _ c.read-flags.ensures c.if-flags-ne2.false
    c.if-bytes-lt8.false
    _ c.read-units.ensures (passed c.is_name_length.ensures c.if-not-is_name_length.false)
    c.if-bytes-units.false
    (sym c.has_lone_surrogate.ensures ∙ c.if-has_lone_surrogate.false)
    _ _ refl c.read-size.ensures (passed c.size_ok.ensures c.if-not-size_ok.false)
    c.if-bytes-units-2.false
    _ c.read-count.ensures (passed c.is_rule_count.ensures c.if-not-is_rule_count.false)
    c.if-bytes-size.false
