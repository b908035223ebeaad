-- Reading a file: every question in order, what the store then holds, and the sheet that a file stands for.
use Rattle.std.specs.Prelude.{◌≡◌, ℕ, ◌*◌, ◌<◌, ◌≤◌, true, false, cond, List, ◌++◌, length, is_some, Some, None, Option}
use Rattle.std.specs.List.{slice_get}
use Rattle.questions.specs.Questions.{Question, first_no}
use Rattle.range.specs.Shapes.{Lawful}
use Rattle.range.specs.Sheets.{Sheet}
use Rattle.range.specs.declared.corners.Corners.{Corners}
use Rattle.datatype.specs.declared.data.Data.{Data}
use Rattle.sheetfile.specs.Bytes.{part}
use Rattle.sheetfile.specs.Contents.{contents_of, no_parts, Laid}
use Rattle.sheetfile.specs.Files.{file_corners, count_of_cells, layout_questions, file_cell, cell_questions, cells_from, cell_place, placed}

-- the k-th cell, by the table of contents
abbrev pub cell_of_file : List ℕ → ℕ → Option Data
cell_of_file file k = file_cell file (contents_of file).cells.place k

-- an empty sheet has no corners and no cells
abbrev pub sheet_corners : List ℕ → Option Corners
sheet_corners file = cond (no_parts (contents_of file)) None (Some (file_corners file))

abbrev pub sheet_count : List ℕ → ℕ
sheet_count file = cond (no_parts (contents_of file)) 0 (count_of_cells file)

-- contents, shape and room first, then cell after cell
abbrev pub file_questions : List ℕ → ℕ → List Question
file_questions file room = layout_questions file room ++ cell_questions (cell_of_file file) 0 (sheet_count file)

-- the store after a reading: a no before the cells writes nothing, and otherwise the cells before the first bad one stand at their places
abbrev pub stored : List ℕ → List Data → List Data
stored file store = cond (is_some (first_no (layout_questions file (length store)))) store (placed (cell_place (file_corners file)) 0 (cells_from (cell_of_file file) 0 (sheet_count file)) store)

-- the sheet is the one that the file stands for
pub record StandsFor (file : List ℕ) (s : Sheet Data) : Type 0 where
  pub corners : s.corners ≡ sheet_corners file
  pub count : length s.cells ≡ sheet_count file
  pub cells : (k : ℕ) → k < sheet_count file → slice_get s.cells (cell_place (file_corners file) k) ≡ cell_of_file file k
  pub text : s.text ≡ part (contents_of file).text.place (contents_of file).text.len file

-- a file that stands for a sheet, with a store that takes its cells: lawful contents, a lawful shape, nine bytes a cell,
-- room for every cell, and each cell of a listed kind and content
pub record Readable (file : List ℕ) (room : ℕ) : Type 0 where
  pub laid : Laid (contents_of file) (length file)
  pub shape : no_parts (contents_of file) ≡ false → Lawful (file_corners file) (count_of_cells file)
  pub bytes : (contents_of file).cells.len ≡ 9 * sheet_count file
  pub fits : sheet_count file ≤ room
  pub cells : (k : ℕ) → k < sheet_count file → is_some (cell_of_file file k) ≡ true
