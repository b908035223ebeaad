use Rattle.std.proofs.Common.{ℕ, ap, ◌∙◌}
use Rattle.std.specs.List.{slice_get}
use Rattle.range.specs.Sheets.{sheet, height, width}
use Rattle.range.specs.Walks.{cut_rows}
use Rattle.range.proofs.WalkLaws.{row_by_number}
use Rattle.range.proofs.sheet.Range.rows.Goals as goal

pub returns : goal.returns
returns g c =
    let cells = c.args.self.now.cells.now in
    let s = sheet c.args.self.now in
    let all = ap (λ (p : ℕ × ℕ). cut_rows p.0 p.1 cells) c.get_size-left.ensures in
    record { all = all; rows = λ k. ap (λ l. slice_get l k) all ∙ row_by_number (height s) (width s) cells k }
