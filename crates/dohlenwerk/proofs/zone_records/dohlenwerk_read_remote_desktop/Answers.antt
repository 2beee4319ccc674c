-- `dohlenwerk_read_remote_desktop` meets its contract, by a law.
use Rattle.std.proofs.Common.{◌∙◌}
use Rattle.dohlenwerk.proofs.zone_records.RemoteLaws.{told-is}
use Rattle.dohlenwerk.proofs.zone_records.dohlenwerk_read_remote_desktop.Goals as goal

pub returns : goal.returns
returns c = c.from.ensures ∙ told-is c.read_remote_desktop.result c.args.bytes.now c.read_remote_desktop.ensures.rule c.read_remote_desktop.ensures.names
