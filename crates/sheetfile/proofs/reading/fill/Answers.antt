use Rattle.std.proofs.Common.{◌∙◌}
use Rattle.std.proofs.lemmas.Result.{err_from_is_err_and}
use Rattle.sheetfile.proofs.FillLaws.{refused_before, filled_questions, filled_store, empty_questions, empty_store}
use Rattle.sheetfile.proofs.reading.fill.Goals as goal
use Rattle.sheetfile.proofs.reading.fill.Goals.{in-Some+in_ok-write_cells, in_default}

pub returns-in_err-found-clause-answers : goal.returns-in_err-found-clause-answers
returns-in_err-found-clause-answers c =
    let p = err_from_is_err_and c.from_residual.result c.from_residual.ensures.1 in
    rw (p.1, p.2) (refused_before c.args.file.now c.args.store.now _ c.in_err-found.ensures.answers)

pub returns-in_err-write_cells-clause-answers : goal.returns-in_err-write_cells-clause-answers
returns-in_err-write_cells-clause-answers c =
    let found = c.in_ok-found.ensures in
    let p = err_from_is_err_and c.from_residual-in_err-write_cells.result c.from_residual-in_err-write_cells.ensures.1 in
    rw (p.1, p.2) (c.in_err-write_cells.ensures.answers ∙ filled_questions c.args.file.now c.args.store.now _ found.answers found.is c.in-Some.layout c.in-Some.is)

pub returns-in_err-write_cells-clause-holds : goal.returns-in_err-write_cells-clause-holds
returns-in_err-write_cells-clause-holds c =
    let found = c.in_ok-found.ensures in
    c.write_cells.ensures.holds ∙ filled_store c.args.file.now c.args.store.now _ found.answers found.is c.in-Some.layout c.in-Some.is

pub returns-clause-answers : goal.returns-clause-answers
returns-clause-answers c =
    let found = c.in_ok-found.ensures in
    elim c.match-found.branch [
      | in-Some+in_ok-write_cells w ↦ w.in_ok-write_cells.ensures.answers ∙ filled_questions c.args.file.now c.args.store.now _ found.answers found.is w.in-Some.layout w.in-Some.is
      | in_default w ↦ empty_questions c.args.file.now c.args.store.now _ found.answers found.is w.in_default.is
    ]

pub returns-clause-holds : goal.returns-clause-holds
returns-clause-holds c =
    let found = c.in_ok-found.ensures in
    elim c.match-found.branch [
      | in-Some+in_ok-write_cells w ↦ w.store-is ∙ w.write_cells.ensures.holds ∙ filled_store c.args.file.now c.args.store.now _ found.answers found.is w.in-Some.layout w.in-Some.is
      | in_default w ↦ w.store-is ∙ empty_store c.args.file.now c.args.store.now _ found.answers found.is w.in_default.is
    ]
