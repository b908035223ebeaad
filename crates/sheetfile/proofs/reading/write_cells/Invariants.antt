use Rattle.std.proofs.Common.{◌≡◌, ◌-◌, length}
use Rattle.questions.specs.Questions.{first_no}
use Rattle.sheetfile.specs.Files.{cell_in, cell_questions, cells_from, placed}
use Rattle.sheetfile.proofs.reading.write_cells.Given as goal

-- what is left comes to what the whole comes to
abbrev pub invariant-loop-index : goal.invariant-loop-index
invariant-loop-index l =
    let cell = cell_in l.cells in
    let count = length l.cells in
    record {
      answers : first_no (cell_questions cell l.index (count - l.index)) ≡ first_no (cell_questions cell 0 count);
      holds : placed (λ k. k) l.index (cells_from cell l.index (count - l.index)) l.store ≡ placed (λ k. k) 0 (cells_from cell 0 count) l.initial.store;
    }
