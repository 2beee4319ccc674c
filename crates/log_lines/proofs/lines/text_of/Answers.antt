-- `log_lines::lines::text_of` meets its contract.
use Rattle.log_lines.specs.Lines.{is_text}
use Rattle.log_lines.proofs.lines.Parts.{taken}
use Rattle.log_lines.proofs.lines.text_of.Goals as goal

pub returns : goal.returns
returns c = rw c.text_length-n.ensures.0 (taken is_text c.args.line.now)
