-- The shape of a sheet: its corners, its limits, and how many cells it has.
use Rattle.std.specs.Prelude.{◌≡◌, ℕ, ◌+◌, ◌-◌, ◌*◌, ◌≤◌, Bool, ◌&&◌, Some, None, Option, ◌==◌, nat_le}
use Rattle.range.specs.declared.corners.Corners.{Corners}

-- how many there are from the first to the last
abbrev pub span : ℕ → ℕ → ℕ
span first last = last - first + 1

abbrev pub rows_of : Corners → ℕ
rows_of k = span k.first_row k.last_row

abbrev pub columns_of : Corners → ℕ
columns_of k = span k.first_column k.last_column

-- corners and a number of cells that make a sheet: no axis runs backwards, the last row and column are
-- within a spreadsheet's 1,048,576 rows and 16,384 columns, and each row has a cell in each column
pub record Lawful (k : Corners) (count : ℕ) : Type 0 where
  pub rows_ordered : k.first_row ≤ k.last_row
  pub columns_ordered : k.first_column ≤ k.last_column
  pub rows_limited : k.last_row ≤ 1048575
  pub columns_limited : k.last_column ≤ 16383
  pub counted : count ≡ rows_of k * columns_of k

-- the same as tests, each a question of its own
abbrev pub ordered : Corners → Bool
ordered k = nat_le k.first_row k.last_row && nat_le k.first_column k.last_column

abbrev pub limited : Corners → Bool
limited k = nat_le k.last_row 1048575 && nat_le k.last_column 16383

abbrev pub counted : Corners → ℕ → Bool
counted k count = count == rows_of k * columns_of k

-- a sheet is empty and has no cells, or it has corners and their cells
abbrev pub shaped : Option Corners → ℕ → Bool
shaped None count = count == 0
shaped (Some k) count = (ordered k && limited k) && counted k count
