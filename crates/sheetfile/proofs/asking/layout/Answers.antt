use Rattle.std.proofs.Common.{None}
use Rattle.std.proofs.lemmas.Result.{err_from_is_err_and}
use Rattle.sheetfile.proofs.LayoutAnswers.{shape_answer, layout_answer}
use Rattle.sheetfile.proofs.asking.layout.Goals as goal

pub returns-in_err-cells-clause-answers : goal.returns-in_err-cells-clause-answers
returns-in_err-cells-clause-answers c =
    let parted = rw c.in_ok-shape.ensures.ok_part at c.cut.ensures in
    let p = err_from_is_err_and c.from_residual-in_err-cells.result c.from_residual-in_err-cells.ensures.1 in
    rw (p.1, p.2) (shape_answer c.args.file.now _ parted c.in-Some.shape.now c.in-Some.ensures.cases _ c.corners-corners.ensures c.args.room _ c.in_err-cells.ensures.answers)

pub returns-clause-answers : goal.returns-clause-answers
returns-clause-answers c =
    let parted = rw c.in_ok-shape.ensures.ok_part at c.cut.ensures in
    shape_answer c.args.file.now _ parted c.in-Some.shape.now c.in-Some.ensures.cases _ c.corners-corners.ensures c.args.room None c.in_ok-cells.ensures.answers

pub returns-clause-is : goal.returns-clause-is
returns-clause-is c =
    let parted = rw c.in_ok-shape.ensures.ok_part at c.cut.ensures in
    layout_answer c.args.file.now _ parted c.in-Some.shape.now c.in-Some.ensures.cases _ c.corners-corners.ensures c.in_ok-cells.cells.now c.in_ok-cells.ensures.lawful c.in_ok-cells.ensures.cut
