-- Each row of a walk is the row of its number, and each cell stands where its numbers say.
use Rattle.std.proofs.Common.{◌≡◌, ℕ, zero, suc, ◌+◌, ◌*◌, ◌/◌, ◌%◌, ◌<◌, ◌≤◌, cond, ◌&&◌, ltb, List, [], ◌∷◌, length, take, drop, Some, None, sym, refl, ap, ◌∙◌, subst, ⊎_elim, suc-mul, mul_comm, zero-mul, arith}
use Rattle.std.proofs.lemmas.Nat.{div_below, mod_below, div-add-mod'}
use Rattle.std.proofs.lemmas.List.{drop-drop}
use Rattle.std.proofs.lemmas.Option.{slice_get_past}
use Rattle.std.proofs.lemmas.Bool.{lt-ltb, le-ltb, cases_lt}
use Rattle.std.specs.List.{slice_get}
use Rattle.range.specs.Walks.{cut_rows, numbered}
use Rattle.range.proofs.Places.{both_inside}

-- the k-th of the rows that cells make
nth_row : {C : Type 0} (rows width : ℕ) (cells : List C) (k : ℕ) → k < rows → slice_get (cut_rows rows width cells) k ≡ Some (take width (drop (k * width) cells))
nth_row zero width cells k lt = absurd (omega arith)
nth_row (suc rows) width cells zero lt = ap (λ n. Some (take width (drop n cells))) (sym (zero-mul width))
nth_row (suc rows) width cells (suc k) lt =
    let far : width + k * width ≡ suc k * width = omega (arith, suc-mul k width) in
    nth_row rows width (drop width cells) k (omega arith)
    ∙ ap (λ l. Some (take width l)) (drop-drop (k * width) width cells)
    ∙ ap (λ n. Some (take width (drop n cells))) far

length_rows : {C : Type 0} (rows width : ℕ) (cells : List C) → length (cut_rows rows width cells) ≡ rows
length_rows zero width cells = refl
length_rows (suc rows) width cells = ap suc (length_rows rows width (drop width cells))

pub row_by_number : {C : Type 0} (rows width : ℕ) (cells : List C) (k : ℕ) → slice_get (cut_rows rows width cells) k ≡ cond (ltb k rows) (Some (take width (drop (k * width) cells))) None
row_by_number rows width cells k =
    let row = Some (take width (drop (k * width) cells)) in
    ⊎_elim
    (λ (lt : k < rows). nth_row rows width cells k lt ∙ sym (ap (λ b. cond b row None) (lt-ltb k rows lt)))
    (λ (le : rows ≤ k). slice_get_past (cut_rows rows width cells) k (omega (arith, length_rows rows width cells)) ∙ sym (ap (λ b. cond b row None) (le-ltb k rows le)))
    (cases_lt k rows)

pub length_numbered : {C : Type 0} (width place : ℕ) (cells : List C) → length (numbered width place cells) ≡ length cells
length_numbered width place [] = refl
length_numbered width place (c ∷ cells) = ap suc (length_numbered width (place + 1) cells)

-- what the k-th cell of a walk shows
nth_numbered : {C : Type 0} (width place : ℕ) (cells : List C) (k row column : ℕ) (c : C) → slice_get (numbered width place cells) k ≡ Some (row, column, c) → (row ≡ (place + k) / width) × (column ≡ (place + k) % width) × (slice_get cells k ≡ Some c) × (k < length cells)
nth_numbered width place [] k row column c e = absurd (grind arith)
nth_numbered {C} width place (x ∷ cells) zero row column c e =
    let same : ◌≡◌ {A = ℕ × ℕ × C} (place / width, place % width, x) (row, column, c) = grind arith in
    let z : place ≡ place + 0 = omega arith in (
      sym (ap (λ (p : ℕ × ℕ × C). p.0) same) ∙ ap (λ n. n / width) z,
      sym (ap (λ (p : ℕ × ℕ × C). p.1) same) ∙ ap (λ n. n % width) z,
      ap (λ (p : ℕ × ℕ × C). Some p.2) same,
      omega arith,
    )
nth_numbered width place (x ∷ cells) (suc k) row column c e =
    let later = nth_numbered width (place + 1) cells k row column c e in
    let next : place + 1 + k ≡ place + suc k = omega arith in (
      later.0 ∙ ap (λ n. n / width) next,
      later.1 ∙ ap (λ n. n % width) next,
      later.2,
      omega (arith, later.3),
    )

pub cell_by_numbers : {C : Type 0} (rows width : ℕ) (cells : List C) (k row column : ℕ) (c : C) → length cells ≡ rows * width → slice_get (numbered width 0 cells) k ≡ Some (row, column, c) → cond (ltb row rows && ltb column width) (slice_get cells (row * width + column)) None ≡ Some c
cell_by_numbers rows width cells k row column c count e =
    let shown = nth_numbered width 0 cells k row column c e in
    let z : 0 + k ≡ k = omega arith in
    let r : row ≡ k / width = shown.0 ∙ ap (λ n. n / width) z in
    let q : column ≡ k % width = shown.1 ∙ ap (λ n. n % width) z in
    let inside : k < rows * width = omega (arith, count, shown.3) in
    let wide : 0 < width = some_width rows width k inside in
    let down : row < rows = subst (λ n. n < rows) (sym r) (div_below k width rows wide inside) in
    let across : column < width = subst (λ n. n < width) (sym q) (mod_below k width wide) in
    let back : row * width + column ≡ k = ap (λ n. n * width + column) r ∙ ap (λ n. k / width * width + n) q ∙ div-add-mod' k width in
    ap (λ b. cond b (slice_get cells (row * width + column)) None) (both_inside row column rows width down across)
    ∙ ap (slice_get cells) back
    ∙ shown.2
  where
    some_width : (rows width k : ℕ) → k < rows * width → 0 < width
    some_width rows zero k lt = absurd (omega (arith, mul_comm rows 0, zero-mul rows))
    some_width rows (suc width) k lt = omega arith
