use Rattle.std.proofs.Common.{length, arith, ◌∙◌}
use Rattle.range.specs.Areas.{corners_of}
use Rattle.range.specs.Sheets.{sheet, height, width}
use Rattle.range.proofs.ShapeLaws.{grid_count}
use Rattle.range.proofs.WalkLaws.{length_numbered, cell_by_numbers}
use Rattle.range.proofs.sheet.Range.cells.Goals as goal

pub returns-clause-count : goal.returns-clause-count
returns-clause-count g c =
    let range = c.args.self.now in
    let cells = range.cells.now in
    let count = length_numbered (width (sheet range)) 0 cells ∙ grid_count (corners_of range.area) (length cells) range.lawful in
    grind (arith, count)

pub returns-clause-places : goal.returns-clause-places
returns-clause-places g c = λ k row column x e.
    let range = c.args.self.now in
    let cells = range.cells.now in
    let s = sheet range in
    cell_by_numbers (height s) (width s) cells k row column x (grid_count (corners_of range.area) (length cells) range.lawful) (grind (arith, e))
