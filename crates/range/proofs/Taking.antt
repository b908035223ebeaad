-- Rows and cells taken from the front and from the back.
use Rattle.std.proofs.Common.{◌≡◌, ℕ, zero, suc, ◌+◌, ◌-◌, ◌*◌, ◌/◌, ◌%◌, ◌<◌, ◌≤◌, List, [], ◌∷◌, ◌++◌, length, take, drop, sym, refl, ap, ◌∙◌, suc-mul, zero-mul, arith, length-drop}
use Rattle.std.proofs.lemmas.List.{length-take-le, take_all, take-append-le, drop-append-le, take-append-drop}
use Rattle.range.specs.Walks.{cut_rows, numbered}

-- the first row, and the rows after it
pub first_row_cut : {C : Type 0} (left width : ℕ) (cells row rest : List C) → 0 < left → row ≡ take width cells → rest ≡ drop width cells → cut_rows left width cells ≡ row ∷ cut_rows (left - 1) width rest
first_row_cut zero width cells row rest some front back = absurd (omega arith)
first_row_cut (suc left) width cells row rest some front back =
    let one : suc left - 1 ≡ left = omega arith in
    ap (λ l. l ∷ cut_rows left width (drop width cells)) (sym front)
    ∙ ap (λ l. row ∷ cut_rows left width l) (sym back)
    ∙ ap (λ n. row ∷ cut_rows n width rest) (sym one)

nothing : {C : Type 0} (xs : List C) → length xs ≡ 0 → xs ≡ []
nothing [] e = refl
nothing (x ∷ xs) e = absurd (omega arith)

-- one row more, after rows that fill the cells before it
row_more : {C : Type 0} (rows width : ℕ) (xs row : List C) → length xs ≡ rows * width → length row ≡ width → cut_rows (suc rows) width (xs ++ row) ≡ cut_rows rows width xs ++ (row ∷ [])
row_more zero width xs row long wide =
    let none = nothing xs (long ∙ zero-mul width) in
    ap (λ l. take width (l ++ row) ∷ []) none ∙ ap (λ l. l ∷ []) (take_all width row (omega arith))
row_more (suc rows) width xs row long wide =
    let grown = suc-mul rows width in
    let fits : width ≤ length xs = omega arith in
    let rest : length (drop width xs) ≡ rows * width = omega (arith, length-drop width xs) in
    ap (λ l. l ∷ cut_rows (suc rows) width (drop width (xs ++ row))) (take-append-le width xs row fits)
    ∙ ap (λ l. take width xs ∷ cut_rows (suc rows) width l) (drop-append-le width xs row fits)
    ∙ ap (λ l. take width xs ∷ l) (row_more rows width (drop width xs) row rest wide)

-- the last row, and the rows before it
pub last_row : {C : Type 0} (left width at : ℕ) (cells rest row : List C) → 0 < left → length cells ≡ left * width → at ≡ length cells - width → rest ≡ take at cells → row ≡ drop at cells → cut_rows left width cells ≡ cut_rows (left - 1) width rest ++ (row ∷ [])
last_row zero width at cells rest row some long e front back = absurd (omega arith)
last_row (suc left) width at cells rest row some long e front back =
    let one : suc left - 1 ≡ left = omega arith in
    let grown = suc-mul left width in
    let whole : cells ≡ rest ++ row = sym (take-append-drop at cells) ∙ ap (λ l. l ++ drop at cells) (sym front) ∙ ap (λ l. rest ++ l) (sym back) in
    let tall : length row ≡ width = ap length back ∙ omega (arith, length-drop at cells) in
    let short : length rest ≡ left * width = ap length front ∙ length-take-le at cells (omega arith) ∙ omega arith in
    ap (cut_rows (suc left) width) whole
    ∙ row_more left width rest row short tall
    ∙ ap (λ n. cut_rows n width rest ++ (row ∷ [])) (sym one)

-- as many rows come as the cells fill
pub count_cut : {C : Type 0} (rows width : ℕ) (cells : List C) → length (cut_rows rows width cells) ≡ rows
count_cut zero width cells = refl
count_cut (suc rows) width cells = ap suc (count_cut rows width (drop width cells))

-- one cell more, with its row and column
pub cell_more : {C : Type 0} (width place : ℕ) (xs : List C) (x : C) → numbered width place (xs ++ (x ∷ [])) ≡ numbered width place xs ++ (((place + length xs) / width, (place + length xs) % width, x) ∷ [])
cell_more width place [] x = let none : place ≡ place + 0 = omega arith in ap (λ n. (n / width, n % width, x) ∷ []) none
cell_more width place (y ∷ xs) x =
    let next : place + 1 + length xs ≡ place + suc (length xs) = omega arith in
    ap (λ l. (place / width, place % width, y) ∷ l) (cell_more width (place + 1) xs x)
    ∙ ap (λ n. (place / width, place % width, y) ∷ (numbered width (place + 1) xs ++ ((n / width, n % width, x) ∷ []))) next

-- the last cell under its row and column, and the cells before it
pub last_cell : {C : Type 0} (width first place : ℕ) (cells rest : List C) (x : C) → cells ≡ rest ++ (x ∷ []) → place ≡ first + length rest → numbered width first cells ≡ numbered width first rest ++ ((place / width, place % width, x) ∷ [])
last_cell width first place cells rest x e at =
    ap (numbered width first) e
    ∙ cell_more width first rest x
    ∙ ap (λ n. numbered width first rest ++ ((n / width, n % width, x) ∷ [])) (sym at)
