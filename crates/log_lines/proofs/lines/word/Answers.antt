-- `log_lines::lines::word` meets its contract.
use Rattle.log_lines.specs.Lines.{is_word}
use Rattle.log_lines.proofs.lines.Parts.{taken}
use Rattle.log_lines.proofs.lines.word.Goals as goal

pub returns : goal.returns
returns c = rw c.word_length-n.ensures.0 (taken is_word c.args.s.now)
