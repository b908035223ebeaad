use Rattle.std.proofs.Common.{length, refl}
use Rattle.std.proofs.lemmas.Result.{err_from_is_err_and}
use Rattle.sheetfile.proofs.SheetLaws.{readable_asked, asked_readable}
use Rattle.sheetfile.proofs.sheet_file.fill_cells.Goals as goal

pub returns-in_err-fill-clause-accepts : goal.returns-in_err-fill-clause-accepts
returns-in_err-fill-clause-accepts c =
    let file = c.args.file.now in
    let room = length c.args.store.now in
    let p = err_from_is_err_and c.from_residual.result c.from_residual.ensures.1 in
    (λ r. let yes = readable_asked file room r in cc c.in_err-fill.ensures.answers, λ e. cc)

pub returns-clause-accepts : goal.returns-clause-accepts
returns-clause-accepts c = (λ r. refl, λ e. asked_readable c.args.file.now (length c.args.store.now) c.in_ok-fill.ensures.answers)
