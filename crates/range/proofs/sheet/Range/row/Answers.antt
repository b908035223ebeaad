use Rattle.std.proofs.Common.{length, rules, arith}
use Rattle.range.proofs.Places.{row_inside}
use Rattle.range.proofs.ShapeLaws.{grid_count, sized_so}
use Rattle.range.specs.Areas.{corners_of}
use Rattle.range.proofs.sheet.Range.row.Goals as goal

pub slice_bounds-result-end : goal.slice_bounds-result-end
slice_bounds-result-end g c =
    let s = c.args.self.now in
    let size = c.get_size-height.result in
    let inside =
    row_inside c.args.index size.0 size.1 (length s.cells.now) (omega (arith, c.if-index-height.false))
    (sized_so size _ _ _ c.get_size-height.ensures (grid_count (corners_of s.area) (length s.cells.now) s.lawful)) in
    search rules
