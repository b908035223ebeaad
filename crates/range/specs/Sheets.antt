-- What a sheet holds, and where its cells stand.
use Rattle.std.specs.Prelude.{ℕ, ◌+◌, ◌-◌, ◌*◌, ◌/◌, ◌%◌, Bool, cond, not, ◌&&◌, List, [], map, take, drop, is_some, Some, None, Option, nat_le, nat_lt}
use Rattle.std.specs.List.{slice_get, range_with_len}
use Rattle.std.specs.Option.{option_map, unwrap_or}
use Rattle.range.specs.Shapes.{rows_of, columns_of}
use Rattle.range.specs.Areas.{corners_of}
use Rattle.range.specs.declared.corners.Corners.{Corners}
use Rattle.range.specs.declared.sheet.Range.{Range}

-- a sheet's corners, if it is not empty, its cells and its text
pub record Sheet (C : Type 0) : Type 0 where
  pub corners : Option Corners
  pub cells : List C
  pub text : List ℕ

abbrev pub sheet : {C : Type 0} → Range C → Sheet C
sheet r = record { corners = corners_of r.area; cells = r.cells.now; text = r.text.now }

abbrev pub made_of : {C : Type 0} → Corners → List C → List ℕ → Sheet C
made_of k cells text = record { corners = Some k; cells = cells; text = text }

abbrev pub empty_sheet : {C : Type 0} → Sheet C
empty_sheet = record { corners = None; cells = []; text = [] }

abbrev pub is_empty : {C : Type 0} → Sheet C → Bool
is_empty s = not (is_some s.corners)

abbrev pub by_corners : {A : Type 0} → Option Corners → A → (Corners → A) → A
by_corners None none some = none
by_corners (Some k) none some = some k

-- the first row and column, and the last; none for the empty sheet
abbrev pub start_of : {C : Type 0} → Sheet C → Option (ℕ × ℕ)
start_of s = option_map (λ k. (k.first_row, k.first_column)) s.corners

abbrev pub end_of : {C : Type 0} → Sheet C → Option (ℕ × ℕ)
end_of s = option_map (λ k. (k.last_row, k.last_column)) s.corners

abbrev pub height : {C : Type 0} → Sheet C → ℕ
height s = by_corners s.corners 0 rows_of

abbrev pub width : {C : Type 0} → Sheet C → ℕ
width s = by_corners s.corners 0 columns_of

-- the cell of a row and a column, both counted from the sheet's first: cells stand row after row
abbrev pub cell_at : {C : Type 0} → Sheet C → ℕ → ℕ → Option C
cell_at s row column = cond (nat_lt row (height s) && nat_lt column (width s)) (slice_get s.cells (row * width s + column)) None

-- the same by the sheet's own numbers, counted from row 0 and column 0
abbrev pub inside : Corners → ℕ → ℕ → Bool
inside k row column =
    (nat_le k.first_row row && nat_le row k.last_row) && (nat_le k.first_column column && nat_le column k.last_column)

abbrev pub value_at : {C : Type 0} → Sheet C → ℕ → ℕ → Option C
value_at s row column = by_corners s.corners None (λ k. cond (inside k row column) (cell_at s (row - k.first_row) (column - k.first_column)) None)

-- a whole row, counted from the sheet's first
abbrev pub row_at : {C : Type 0} → Sheet C → ℕ → Option (List C)
row_at s row = cond (nat_lt row (height s)) (Some (take (width s) (drop (row * width s) s.cells))) None

-- the cells of a part between corners of its own: the sheet's cells by the sheet's own numbers, and elsewhere the empty cell
abbrev pub part_cell : {C : Type 0} → Sheet C → Corners → C → ℕ → C
part_cell s k empty place = unwrap_or (value_at s (k.first_row + place / columns_of k) (k.first_column + place % columns_of k)) empty

abbrev pub part_cells : {C : Type 0} → Sheet C → Corners → C → List C
part_cells s k empty = map (part_cell s k empty) (range_with_len 0 (rows_of k * columns_of k))
