-- `log_lines::lines::log_line` meets its contract: no word, one word, more than two, or two.
use mathlib.Core.Path.{ap, ◌∙◌}
use Rattle.std.proofs.lemmas.Result.{err_from_is_err_and}
use Rattle.log_lines.specs.Lines.{first_word}
use Rattle.log_lines.proofs.lines.Words.{emptiness, no_word, one_word, more-words, two-words}
use Rattle.log_lines.proofs.lines.log_line.Goals as goal

pub returns-then-is_empty : goal.returns-then-is_empty
returns-then-is_empty c = no_word _ _ (c.first_word-first.ensures ∙ ap first_word c.text_of.ensures) (emptiness _ _ c.if-is_empty.ensures)

pub returns-then-is_empty-2 : goal.returns-then-is_empty-2
returns-then-is_empty-2 c =
    one_word _ _ _ (c.first_word-first.ensures ∙ ap first_word c.text_of.ensures) c.next_word-second.ensures (emptiness _ _ c.if-is_empty.ensures)
    (emptiness _ _ c.if-is_empty-2.ensures)

pub returns-then-not-is_empty : goal.returns-then-not-is_empty
returns-then-not-is_empty c =
    more-words _ _ _ (c.first_word-first.ensures ∙ ap first_word c.text_of.ensures) c.next_word-second.ensures (emptiness _ _ c.if-is_empty.ensures)
    _ c.next_word-third.ensures (emptiness _ _ c.if-is_empty-2.ensures) (emptiness _ _ c.if-not-is_empty.ensures)

pub returns-in_err-run_of : goal.returns-in_err-run_of
returns-in_err-run_of c =
    let p = err_from_is_err_and c.from_residual.result c.from_residual.ensures.1 in
    rw (p.1, p.2)
    (rw (← c.in_err-run_of.ensures) at (two-words _ _ _ (c.first_word-first.ensures ∙ ap first_word c.text_of.ensures) c.next_word-second.ensures (emptiness _ _ c.if-is_empty.ensures)
    _ c.next_word-third.ensures (emptiness _ _ c.if-is_empty-2.ensures) (emptiness _ _ c.if-not-is_empty.ensures)
    c.word.result.now c.word-2.result.now c.word.ensures c.word-2.ensures))

pub returns : goal.returns
returns c =
    rw (← c.in_ok-run_of.ensures) at (two-words _ _ _ (c.first_word-first.ensures ∙ ap first_word c.text_of.ensures) c.next_word-second.ensures (emptiness _ _ c.if-is_empty.ensures)
    _ c.next_word-third.ensures (emptiness _ _ c.if-is_empty-2.ensures) (emptiness _ _ c.if-not-is_empty.ensures)
    c.word.result.now c.word-2.result.now c.word.ensures c.word-2.ensures)
