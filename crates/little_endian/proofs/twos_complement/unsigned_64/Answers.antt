-- `little_endian::twos_complement::unsigned_64` meets its contract, by the law of every width.
use mir.Syntax.{w64}
use Rattle.little_endian.proofs.TwosComplementLaws.{unsigned-cast}
use Rattle.little_endian.proofs.twos_complement.unsigned_64.Goals as goal

pub returns : goal.returns
returns c = unsigned-cast w64 c.args.x c.ranges.x c.cast_unsigned.ensures
