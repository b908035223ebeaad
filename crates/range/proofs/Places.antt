-- Places of cells that stand row after row.
use Rattle.std.proofs.Common.{◌≡◌, ℕ, ◌+◌, ◌*◌, ◌<◌, ◌≤◌, true, ◌&&◌, ltb, ap, ◌∙◌, mul-le-mul_right, add-mul, arith}
use Rattle.std.proofs.lemmas.Bool.{lt-ltb}

-- both tests of a place inside the grid hold
pub both_inside : (row column rows width : ℕ) → row < rows → column < width → ltb row rows && ltb column width ≡ true
both_inside row column rows width r c = ap (λ b. b && ltb column width) (lt-ltb row rows r) ∙ lt-ltb column width c

-- where a row is left, the cells hold one
pub row_fits : (left width count : ℕ) → 0 < left → count ≡ left * width → width ≤ count
row_fits left width count some e = let more : 1 * width ≤ left * width = mul-le-mul_right width (omega arith) in omega (arith, more)

-- a whole row inside the grid
pub row_inside : (row rows width count : ℕ) → row < rows → count ≡ rows * width → row * width + width ≤ count
row_inside row rows width count r e =
    let more : (row + 1) * width ≤ rows * width = mul-le-mul_right width (omega arith) in
    omega (arith, more, add-mul row 1 width)
