use Rattle.std.proofs.Common.{arith}
use Rattle.range.specs.Sheets.{sheet, part_cell}
use Rattle.range.proofs.Filling.{fill_more}
use Rattle.range.proofs.sheet.Range.copy_cells.Goals as goal

pub loop-place-preserved : goal.loop-place-preserved
loop-place-preserved g c =
    fill_more (part_cell (sheet c.args.self.now) c.args.part.corners c.args.empty) c.loop-place.entry-items c.loop-place.place c.cell_or.result
    (omega (arith, c.loop-place-test.true, c.loop-place.auto.entry-items)) c.cell_or.ensures c.loop-place.invariant
