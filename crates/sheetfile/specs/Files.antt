-- A sheet file: its questions in order, its sheet, and what a reading leaves in the store.
use Rattle.std.specs.Prelude.{◌≡◌, ℕ, zero, suc, ◌+◌, ◌*◌, true, cond, List, [], ◌∷◌, is_some, Some, None, Option, ◌==◌, nat_le, slice_set, slice_index_or}
use Rattle.std.specs.Simd.{first_chunks}
use Rattle.questions.specs.Questions.{Refusal, Question, bare}
use Rattle.range.specs.Shapes.{rows_of, columns_of}
use Rattle.range.specs.Making as making
use Rattle.range.specs.Making.{corner_questions}
use Rattle.range.specs.declared.corners.Corners.{Corners}
use Rattle.datatype.specs.declared.data.Data.{Data}
use Rattle.sheetfile.specs.Bytes.{valued, part}
use Rattle.sheetfile.specs.CellCode.{decoded}
use Rattle.sheetfile.specs.Contents.{contents_of, no_parts, lawful}
use Rattle.sheetfile.specs.declared.asking.Parts.{Parts}
use Rattle.sheetfile.specs.declared.fault.FileFault.{FileFault}
use Rattle.sheetfile.specs.declared.fault.FileFault.TheVariants.{Contents, Sheet, Cell}
use Rattle.sheetfile.specs.declared.layout.Layout.{Layout}

-- 19 carries the cell's index in the order of the file
abbrev pub bad_cell : ℕ → Refusal
bad_cell index = record { number = 19; values = index ∷ [] }

abbrev pub told : FileFault → Refusal
told Contents = bare 18
told (Sheet f) = making.told f
told (Cell index) = bad_cell index

-- the shape: first row, first column, last row, last column, four bytes each
abbrev pub corners_at : List ℕ → ℕ → Corners
corners_at file at = record {
  first_row = valued (part at 4 file);
  first_column = valued (part (at + 4) 4 file);
  last_row = valued (part (at + 8) 4 file);
  last_column = valued (part (at + 12) 4 file);
}

abbrev pub file_corners : List ℕ → Corners
file_corners file = corners_at file (contents_of file).shape.place

abbrev pub count_of_cells : List ℕ → ℕ
count_of_cells file = rows_of (file_corners file) * columns_of (file_corners file)

-- corners, nine bytes a cell, and room for every cell
abbrev pub shape_questions : Corners → ℕ → ℕ → List Question
shape_questions k bytes room = corner_questions k (((bytes == 9 * (rows_of k * columns_of k)), bare 3) ∷ (nat_le (rows_of k * columns_of k) room, bare 20) ∷ [])

-- the questions before the cells: an empty sheet is asked for its contents alone
abbrev pub layout_questions : List ℕ → ℕ → List Question
layout_questions file room =
    (lawful file, bare 18) ∷ cond (no_parts (contents_of file)) [] (shape_questions (file_corners file) (contents_of file).cells.len room)

-- the bytes of each part, where the table of contents is lawful
pub record IsParted (file : List ℕ) (parts : Parts) : Type 0 where
  pub lawful : lawful file ≡ true
  pub shape : parts.shape.now ≡ part (contents_of file).shape.place (contents_of file).shape.len file
  pub cells : parts.cells.now ≡ part (contents_of file).cells.place (contents_of file).cells.len file
  pub text : parts.text.now ≡ part (contents_of file).text.place (contents_of file).text.len file

-- the parts of a sheet that is not empty: its corners, its cells, nine bytes each, and its text
pub record SheetParts : Type 0 where
  pub corners : Corners
  pub cells : List (List ℕ)
  pub text : List ℕ

abbrev pub shown : Layout → SheetParts
shown l = record { corners = l.corners; cells = l.cells.now; text = l.text.now }

abbrev pub file_layout : List ℕ → Option SheetParts
file_layout file = cond (no_parts (contents_of file)) None (Some (record {
  corners = file_corners file;
  cells = first_chunks 9 (count_of_cells file) (part (contents_of file).cells.place (contents_of file).cells.len file);
  text = part (contents_of file).text.place (contents_of file).text.len file;
}))

-- the k-th cell of the file, nine bytes from its place on
abbrev pub file_cell : List ℕ → ℕ → ℕ → Option Data
file_cell file place k = decoded (part (place + 9 * k) 9 file)

-- the k-th of cells that stand apart
abbrev pub cell_in : List (List ℕ) → ℕ → Option Data
cell_in cells k = decoded (slice_index_or cells k [])

abbrev pub met : {A B : Type 0} → Option A → (A → B) → B → B
met None some none = none
met (Some a) some none = some a

-- is the k-th cell, and each of the n from there on, of a listed kind and content?
abbrev pub cell_questions : (ℕ → Option Data) → ℕ → ℕ → List Question
cell_questions cell k zero = []
cell_questions cell k (suc n) = (is_some (cell k), bad_cell k) ∷ cell_questions cell (k + 1) n

-- the cells from the k-th on, up to the first that is none
abbrev pub cells_from : (ℕ → Option Data) → ℕ → ℕ → List Data
cells_from cell k zero = []
cells_from cell k (suc n) = met (cell k) (λ c. c ∷ cells_from cell (k + 1) n) []

-- where the k-th cell of the file stands in the sheet, row after row
abbrev pub cell_place : Corners → ℕ → ℕ
cell_place corners k = k

-- cells in the order of the file, the k-th and those after it, each written to its place
abbrev pub placed : {C : Type 0} → (ℕ → ℕ) → ℕ → List C → List C → List C
placed place k [] store = store
placed place k (c ∷ cs) store = placed place (k + 1) cs (slice_set store (place k) c)
