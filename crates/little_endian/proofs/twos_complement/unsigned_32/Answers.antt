-- `little_endian::twos_complement::unsigned_32` meets its contract, by the law of every width.
use mir.Syntax.{w32}
use Rattle.little_endian.proofs.TwosComplementLaws.{unsigned-cast}
use Rattle.little_endian.proofs.twos_complement.unsigned_32.Goals as goal

pub returns : goal.returns
returns c = unsigned-cast w32 c.args.x c.ranges.x c.cast_unsigned.ensures
