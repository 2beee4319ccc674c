-- `little_endian::twos_complement::signed_64` meets its contract, by the law of every width.
use mir.Syntax.{w64}
use Rattle.little_endian.proofs.TwosComplementLaws.{signed-cast}
use Rattle.little_endian.proofs.twos_complement.signed_64.Goals as goal

pub returns : goal.returns
returns c = signed-cast w64 c.args.u c.ranges.u c.cast_signed.ensures
