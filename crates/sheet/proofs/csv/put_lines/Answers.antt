-- `sheet::csv::put_lines` meets its contract, line by line.
use mathlib.Core.Path.{sym}
use Rattle.std.proofs.Common.{rules}
use Rattle.std.specs.List.{zip}
use Rattle.std.proofs.lemmas.Iterator.{YieldsList-from_slice, YieldsList-from_zip, zips}
use Rattle.std.proofs.lemmas.Fn.{fold_over, fronts}
use Rattle.page.proofs.PageLaws.{nothing}
use Rattle.sheet.specs.Csv.{line_text, lines_text}
use Rattle.sheet.proofs.WeekLaws.{Shows, one_more, week}
use Rattle.sheet.proofs.csv.put_lines.Goals as goal

pub returns : goal.returns
unfolding lines_text
returns c =
    let page = c.args.page in
    let totals = c.args.totals in
    let names = c.iter.result.rest.now in
    week (line_text c.args.end) page c.fold.result totals (search rules) c.iter.ensures.rest
    (fold_over (zips fronts fronts) (λ p. (p.0.now, p.1.now)) _ (Shows (line_text c.args.end) page) _ (λ ps a x b f' e k. (one_more (line_text c.args.end) page a b ps _ e (search rules), search rules))
    c.zip.result (zip names totals) page c.fold.result (YieldsList-from_zip (YieldsList-from_slice names cc) (YieldsList-from_slice totals cc)).runs
    (sym (nothing page (search rules))) c.fold.ensures.ran)
