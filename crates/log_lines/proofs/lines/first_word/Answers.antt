-- `log_lines::lines::first_word` meets its contract.
use Rattle.std.proofs.lemmas.List.{take_rest}
use Rattle.log_lines.specs.Lines.{is_blank}
use Rattle.log_lines.proofs.lines.Parts.{dropped}
use Rattle.log_lines.proofs.lines.first_word.Goals as goal

pub returns : goal.returns
returns c = rw (take_rest, c.blanks-n.ensures.0) (dropped is_blank c.args.s.now)
