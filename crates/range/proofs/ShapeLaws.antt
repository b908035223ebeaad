-- What the shape of a sheet gives.
use Rattle.std.proofs.Common.{◌≡◌, ℕ, ◌*◌, true, ◌&&◌, leb, Some, None, Option, sym, ap, ◌∙◌}
use Rattle.std.proofs.lemmas.Bool.{eqb-true, leb-true, le-leb, and_parts, and_from}
use Rattle.range.specs.declared.corners.Corners.{Corners}
use Rattle.range.specs.Shapes.{Lawful, shaped, ordered, limited, counted, rows_of, columns_of}
use Rattle.range.specs.Sheets.{by_corners}

-- a sheet has rows times columns cells, the empty one too
pub grid_count : (o : Option Corners) (count : ℕ) → shaped o count ≡ true → count ≡ by_corners o 0 rows_of * by_corners o 0 columns_of
grid_count None count h = eqb-true count 0 h
grid_count (Some k) count h = eqb-true count (rows_of k * columns_of k) (and_parts (ordered k && limited k) (counted k count) h).1

-- the count by a size that was told as a pair
pub sized_so : (size : ℕ × ℕ) (rows columns count : ℕ) → size ≡ (rows, columns) → count ≡ rows * columns → count ≡ size.0 * size.1
sized_so size rows columns count e is = is ∙ sym (ap (λ (p : ℕ × ℕ). p.0 * p.1) e)

-- the facts of lawful corners as tests, and back
pub lawful_tests : (k : Corners) (count : ℕ) → Lawful k count → (ordered k ≡ true) × (limited k ≡ true)
lawful_tests k count l = (
  and_from (leb k.first_row k.last_row) _ (le-leb k.first_row k.last_row l.rows_ordered) (le-leb k.first_column k.last_column l.columns_ordered),
  and_from (leb k.last_row 1048575) _ (le-leb k.last_row 1048575 l.rows_limited) (le-leb k.last_column 16383 l.columns_limited),
)

pub tests_lawful : (k : Corners) (count : ℕ) → ordered k ≡ true → limited k ≡ true → count ≡ rows_of k * columns_of k → Lawful k count
tests_lawful k count o l e =
    let p = and_parts (leb k.first_row k.last_row) (leb k.first_column k.last_column) o in
    let q = and_parts (leb k.last_row 1048575) (leb k.last_column 16383) l in
    record {
      rows_ordered = leb-true k.first_row k.last_row p.0;
      columns_ordered = leb-true k.first_column k.last_column p.1;
      rows_limited = leb-true k.last_row 1048575 q.0;
      columns_limited = leb-true k.last_column 16383 q.1;
      counted = e;
    }
