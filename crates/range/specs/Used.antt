-- The cells of a sheet that are not empty.
use Rattle.std.specs.Prelude.{ℕ, Bool, cond, List, [], ◌∷◌}
use Rattle.datatype.specs.Meanings.{Meaning, is_empty}
use Rattle.range.specs.Walks.{cells_left}
use Rattle.range.specs.declared.used_cells.UsedCells.{UsedCells}

-- whether a cell is empty over a text, by what it means there
abbrev pub empty_over : {C : Type 0} → (C → List ℕ → Meaning) → List ℕ → C → Bool
empty_over meaning text cell = is_empty (meaning cell text)

-- cells with their row and column, without the empty ones
abbrev pub used_only : {C : Type 0} → (C → Bool) → List (ℕ × ℕ × C) → List (ℕ × ℕ × C)
used_only empty [] = []
used_only empty (x ∷ xs) = cond (empty x.2) (used_only empty xs) (x ∷ used_only empty xs)

abbrev pub used_left : {C : Type 0} → (C → List ℕ → Meaning) → UsedCells C → List (ℕ × ℕ × C)
used_left meaning walk = used_only (empty_over meaning walk.text.now) (cells_left walk.cells)
