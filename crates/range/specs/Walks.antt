-- Rows and cells taken one after another, from the front or from the back.
use Rattle.std.specs.Prelude.{ℕ, zero, suc, ◌+◌, ◌/◌, ◌%◌, List, [], ◌∷◌, take, drop}
use Rattle.std.specs.Borrow.{Bor}
use Rattle.std.specs.Iterator.Adapters.{enumerate_count, enumerate_source}
use Rattle.std.specs.Slice.Iter.{iter_rest}
use Rattle.range.specs.Sheets.{Sheet, height, width}
use Rattle.range.specs.declared.rows.Rows.{Rows}
use Rattle.range.specs.declared.cells.Cells.{Cells}

-- so many rows of a width, from cells that stand row after row
abbrev pub cut_rows : {C : Type 0} → ℕ → ℕ → List C → List (List C)
cut_rows zero width cells = []
cut_rows (suc rows) width cells = take width cells ∷ cut_rows rows width (drop width cells)

abbrev pub rows_of_sheet : {C : Type 0} → Sheet C → List (List C)
rows_of_sheet s = cut_rows (height s) (width s) s.cells

abbrev pub rows_left : {C : Type 0} → Rows C → List (List C)
rows_left r = cut_rows r.left r.width r.cells.now

-- cells with their row and column, from the cell at a place on
abbrev pub numbered : {C : Type 0} → ℕ → ℕ → List C → List (ℕ × ℕ × C)
numbered width place [] = []
numbered width place (c ∷ cs) = (place / width, place % width, c) ∷ numbered width (place + 1) cs

abbrev pub cells_of_sheet : {C : Type 0} → Sheet C → List (ℕ × ℕ × C)
cells_of_sheet s = numbered (width s) 0 s.cells

abbrev pub cells_left : {C : Type 0} → Cells C → List (ℕ × ℕ × C)
cells_left r = numbered r.width (enumerate_count r.cells) (iter_rest (enumerate_source r.cells))

-- a cell as it is handed out, with what its reference points to
abbrev pub cell_shown : {C : Type 0} → ℕ × ℕ × Bor C → ℕ × ℕ × C
cell_shown x = (x.0, x.1, x.2.now)
