-- `log_lines::lines::next_word` meets its contract.
use Rattle.std.proofs.Common.{◌∙◌, ap}
use Rattle.std.proofs.lemmas.List.{take_rest}
use Rattle.log_lines.specs.Lines.{is_word, first_word}
use Rattle.log_lines.proofs.lines.Parts.{dropped}
use Rattle.log_lines.proofs.lines.next_word.Goals as goal

pub returns : goal.returns
returns c = c.first_word.ensures ∙ ap first_word (rw (take_rest, c.word_length-n.ensures.0) (dropped is_word c.args.s.now))
