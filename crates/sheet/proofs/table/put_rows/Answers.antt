-- `sheet::table::put_rows` meets its contract, row by row.
use mathlib.Core.Path.{sym}
use Rattle.std.proofs.Common.{rules}
use Rattle.std.specs.List.{zip}
use Rattle.std.proofs.lemmas.Iterator.{YieldsList-from_slice, YieldsList-from_zip, zips}
use Rattle.std.proofs.lemmas.Fn.{fold_over, fronts}
use Rattle.page.proofs.PageLaws.{nothing}
use Rattle.sheet.specs.Table.{row_text, rows_text}
use Rattle.sheet.proofs.WeekLaws.{Shows, one_more, week}
use Rattle.sheet.proofs.table.put_rows.Goals as goal

pub returns : goal.returns
unfolding rows_text
returns c =
    let page = c.args.page in
    let totals = c.args.totals in
    let names = c.iter.result.rest.now in
    week row_text page c.fold.result totals (search rules) c.iter.ensures.rest
    (fold_over (zips fronts fronts) (λ p. (p.0.now, p.1.now)) _ (Shows row_text page) _ (λ ps a x b f' e k. (one_more row_text page a b ps _ e (search rules), search rules))
    c.zip.result (zip names totals) page c.fold.result (YieldsList-from_zip (YieldsList-from_slice names cc) (YieldsList-from_slice totals cc)).runs
    (sym (nothing page (search rules))) c.fold.ensures.ran)
