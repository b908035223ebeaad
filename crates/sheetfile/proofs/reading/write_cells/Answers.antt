use Rattle.std.proofs.Common.{length, sym, ◌∙◌}
use Rattle.sheetfile.specs.Files.{cell_in}
use Rattle.sheetfile.proofs.ReadLaws.{good_questions, good_cells}
use Rattle.sheetfile.proofs.reading.write_cells.Goals as goal

pub loop-index-preserved : goal.loop-index-preserved
loop-index-preserved c =
    let cell = cell_in c.args.cells.now in
    let count = length c.args.cells.now in
    let is = sym c.in-Some.ensures in
    record {
      answers = good_questions cell (λ k. k) c.loop-index.store count c.loop-index.index c.in-Some.cell c.loop-index-test.true is ∙ c.loop-index.invariant.answers;
      holds = good_cells cell (λ k. k) c.loop-index.store count c.loop-index.index c.in-Some.cell c.loop-index-test.true is ∙ c.loop-index.invariant.holds;
    }
