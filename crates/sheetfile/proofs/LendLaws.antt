-- The sheet that is lent the filled store is the one that the file stands for.
use Rattle.std.proofs.Common.{◌≡◌, ℕ, ◌+◌, cond, List, length, take, Some, None, sym, ap, ◌∙◌, arith}
use Rattle.std.specs.List.{slice_get}
use Rattle.questions.specs.Questions.{first_no}
use Rattle.questions.proofs.QuestionLaws.{both_lots}
use Rattle.range.specs.Sheets.{made_of}
use Rattle.datatype.specs.declared.data.Data.{Data}
use Rattle.sheetfile.specs.Contents.{contents_of, no_parts}
use Rattle.sheetfile.specs.Files.{file_corners, layout_questions, file_layout, SheetParts, cell_questions, cells_from}
use Rattle.sheetfile.specs.Reading.{cell_of_file, sheet_count, file_questions, stored, StandsFor}
use Rattle.sheetfile.proofs.FillLaws.{passed_before, some_layout, whole_layout, found_count}
use Rattle.sheetfile.proofs.SheetLaws.{asked_readable, good_length, good_nth, placed_taken, from_zero}

module _ (file : List ℕ) (store after : List Data) (asked : None ≡ first_no (file_questions file (length store))) (is : after ≡ stored file store) where
  -- the cells in the front of the store
  front : take (sheet_count file) after ≡ cells_from (cell_of_file file) 0 (sheet_count file)
  front =
      let readable = asked_readable file (length store) asked in
      let lots = both_lots (layout_questions file (length store)) (cell_questions (cell_of_file file) 0 (sheet_count file)) asked in
      let good = from_zero (cell_of_file file) (sheet_count file) readable.cells in
      placed_taken (sheet_count file) (cells_from (cell_of_file file) 0 (sheet_count file)) store after (good_length (cell_of_file file) 0 (sheet_count file) good) readable.fits (is ∙ sym (passed_before file store lots.0).1)

  pub stands : (l : SheetParts) → Some l ≡ file_layout file → StandsFor file (made_of l.corners (take (length l.cells) after) l.text)
  stands l found =
      let readable = asked_readable file (length store) asked in
      let lots = both_lots (layout_questions file (length store)) (cell_questions (cell_of_file file) 0 (sheet_count file)) asked in
      let s = some_layout (no_parts (contents_of file)) l (whole_layout file) found in
      let good = from_zero (cell_of_file file) (sheet_count file) readable.cells in
      let cells = ap (λ n. take n after) (found_count file (length store) lots.0 l found) ∙ front in
      record {
        corners = ap (λ (m : SheetParts). Some m.corners) s.1 ∙ sym (ap (λ b. cond b None (Some (file_corners file))) s.0);
        count = ap length cells ∙ good_length (cell_of_file file) 0 (sheet_count file) good;
        cells = λ k lt. let z : 0 + k ≡ k = omega arith in ap (λ l. slice_get l k) cells ∙ good_nth (cell_of_file file) 0 (sheet_count file) good k lt ∙ ap (cell_of_file file) z;
        text = ap (λ (m : SheetParts). m.text) s.1;
      }
