-- The questions before the cells and those of the cells, joined, and what the store holds after them.
use Rattle.std.proofs.Common.{◌≡◌, ℕ, zero, suc, ◌+◌, ◌*◌, ◌<◌, ◌≤◌, Bool, true, false, cond, List, [], ◌∷◌, length, get_or, is_some, Some, None, Option, sym, refl, ap, ◌∙◌, arith}
use Rattle.std.specs.Option.{option_map}
use Rattle.std.specs.Simd.{first_chunks}
use Rattle.std.proofs.lemmas.Bool.Decides.{nat_tests}
use Rattle.questions.specs.Questions.{Refusal, first_no, bare}
use Rattle.range.specs.Shapes.{ordered, limited}
use Rattle.questions.proofs.QuestionLaws.{no_in_first, no_in_second, first_yes}
use Rattle.datatype.specs.declared.data.Data.{Data}
use Rattle.sheetfile.specs.Contents.{contents_of, no_parts, lawful, Laid}
use Rattle.sheetfile.specs.Bytes.{part}
use Rattle.sheetfile.specs.CellCode.{decoded}
use Rattle.sheetfile.specs.Files.{bad_cell, met, file_corners, count_of_cells, shape_questions, layout_questions, file_layout, SheetParts, shown, cell_in, cell_questions, cells_from, cell_place, placed}
use Rattle.sheetfile.specs.Reading.{cell_of_file, sheet_count, file_questions, stored}
use Rattle.sheetfile.specs.declared.layout.Layout.{Layout}
use Rattle.sheetfile.proofs.LittleEndian.{part_of_part, chunk_at, length_chunks}
use Rattle.sheetfile.proofs.LayoutLaws.{lawful_laid}

module _ (file : List ℕ) (store : List Data) where
  -- a no before the cells is the answer
  pub refused_before : (x : Refusal) → Some x ≡ first_no (layout_questions file (length store)) → Some x ≡ first_no (file_questions file (length store))
  refused_before = no_in_first (layout_questions file (length store)) (cell_questions (cell_of_file file) 0 (sheet_count file))

  -- no such no: the cells give the answer, and they are written
  pub passed_before : None ≡ first_no (layout_questions file (length store)) → (first_no (cell_questions (cell_of_file file) 0 (sheet_count file)) ≡ first_no (file_questions file (length store))) × (placed (cell_place (file_corners file)) 0 (cells_from (cell_of_file file) 0 (sheet_count file)) store ≡ stored file store)
  passed_before e = (
    no_in_second (layout_questions file (length store)) (cell_questions (cell_of_file file) 0 (sheet_count file)) e,
    ap (λ o. cond (is_some o) store (placed (cell_place (file_corners file)) 0 (cells_from (cell_of_file file) 0 (sheet_count file)) store)) e,
  )

-- ---- the layout
abbrev pub whole_layout : List ℕ → SheetParts
whole_layout file = record {
  corners = file_corners file;
  cells = first_chunks 9 (count_of_cells file) (part (contents_of file).cells.place (contents_of file).cells.len file);
  text = part (contents_of file).text.place (contents_of file).text.len file;
}

pub no_layout : (b : Bool) (l : SheetParts) → None ≡ cond b None (Some l) → b ≡ true
no_layout true l e = refl
no_layout false l e = absurd (grind arith)

pub some_layout : (b : Bool) (l m : SheetParts) → Some l ≡ cond b None (Some m) → (b ≡ false) × (l ≡ m)
some_layout true l m e = absurd (grind arith)
some_layout false l m e = (refl, grind arith)

-- what a yes to every question before the cells says of a sheet that is not empty
pub record LaidOut (file : List ℕ) (room : ℕ) : Type 0 where
  pub laid : Laid (contents_of file) (length file)
  pub forwards : ordered (file_corners file) ≡ true
  pub within : limited (file_corners file) ≡ true
  pub bytes : (contents_of file).cells.len ≡ 9 * count_of_cells file
  pub fits : count_of_cells file ≤ room

pub laid_out : (file : List ℕ) (room : ℕ) → None ≡ first_no (layout_questions file room) → no_parts (contents_of file) ≡ false → LaidOut file room
laid_out file room e some =
    let asked = shape_questions (file_corners file) (contents_of file).cells.len room in
    let first = first_yes (lawful file) (bare 18) (cond (no_parts (contents_of file)) [] asked) e in
    let shape : None ≡ first_no asked = first.1 ∙ ap (λ b. first_no (cond b [] asked)) some in
    record {
      laid = lawful_laid file first.0;
      forwards = grind (arith, nat_tests, shape);
      within = grind (arith, nat_tests, shape);
      bytes = grind (arith, nat_tests, shape);
      fits = grind (arith, nat_tests, shape);
    }

-- ---- the cells by a layout that was found, and by the file
-- questions and cells tell no more of the cells than those that they go over
same_questions : (f g : ℕ → Option Data) (k n : ℕ) → ((i : ℕ) → i < k + n → f i ≡ g i) → cell_questions f k n ≡ cell_questions g k n
same_questions f g k zero same = refl
same_questions f g k (suc n) same =
    let here = same k (omega arith) in
    let rest = same_questions f g (k + 1) n (λ i lt. same i (omega arith)) in
    ap (λ o. (is_some o, bad_cell k) ∷ cell_questions f (k + 1) n) here ∙ ap (λ qs. (is_some (g k), bad_cell k) ∷ qs) rest

same_cells : (f g : ℕ → Option Data) (k n : ℕ) → ((i : ℕ) → i < k + n → f i ≡ g i) → cells_from f k n ≡ cells_from g k n
same_cells f g k zero same = refl
same_cells f g k (suc n) same =
    let here = same k (omega arith) in
    let rest = same_cells f g (k + 1) n (λ i lt. same i (omega arith)) in
    ap (λ o. met o (λ c. c ∷ cells_from f (k + 1) n) []) here ∙ ap (λ cs. met (g k) (λ c. c ∷ cs) []) rest

module _ (file : List ℕ) (room : ℕ) (asked : None ≡ first_no (layout_questions file room)) (l : SheetParts) (found : Some l ≡ file_layout file) where
  cells_are : l.cells ≡ (whole_layout file).cells
  cells_are = let s = some_layout (no_parts (contents_of file)) l (whole_layout file) found in cc

  pub found_count : length l.cells ≡ sheet_count file
  found_count =
      let s = some_layout (no_parts (contents_of file)) l (whole_layout file) found in
      ap length cells_are
      ∙ length_chunks 9 (count_of_cells file) (part (contents_of file).cells.place (contents_of file).cells.len file)
      ∙ sym (ap (λ b. cond b 0 (count_of_cells file)) s.0)

  found_cell : (k : ℕ) → k < length l.cells → cell_in l.cells k ≡ cell_of_file file k
  found_cell k lt =
      let s = some_layout (no_parts (contents_of file)) l (whole_layout file) found in
      let bytes = (laid_out file room asked s.0).bytes in
      let place = (contents_of file).cells.place in
      let len = (contents_of file).cells.len in
      let within : k < count_of_cells file = omega (arith, ap length cells_are, length_chunks 9 (count_of_cells file) (part place len file)) in
      let nines : place + k * 9 ≡ place + 9 * k = omega arith in
      ap decoded (ap (λ cells. get_or cells k []) cells_are
      ∙ chunk_at 9 (count_of_cells file) k (part place len file) within
      ∙ part_of_part file place len (k * 9) 9 (omega (arith, bytes))
      ∙ ap (λ n. part n 9 file) nines)

  pub found_questions : first_no (cell_questions (cell_in l.cells) 0 (length l.cells)) ≡ first_no (cell_questions (cell_of_file file) 0 (sheet_count file))
  found_questions =
      ap first_no (same_questions (cell_in l.cells) (cell_of_file file) 0 (length l.cells) (λ i lt. found_cell i (omega arith)))
      ∙ ap (λ n. first_no (cell_questions (cell_of_file file) 0 n)) found_count

  pub found_cells : cells_from (cell_in l.cells) 0 (length l.cells) ≡ cells_from (cell_of_file file) 0 (sheet_count file)
  found_cells =
      same_cells (cell_in l.cells) (cell_of_file file) 0 (length l.cells) (λ i lt. found_cell i (omega arith))
      ∙ ap (cells_from (cell_of_file file) 0) found_count

-- ---- a layout as it was found, and the answers and the store after the cells
module _ (file : List ℕ) (store : List Data) (found : Option Layout) (asked : None ≡ first_no (layout_questions file (length store))) (is : option_map shown found ≡ file_layout file) where
  some_found : (l : Layout) → found ≡ Some l → Some (shown l) ≡ file_layout file
  some_found l e = ap (option_map shown) (sym e) ∙ is

  none_found : found ≡ None → no_parts (contents_of file) ≡ true
  none_found e = no_layout (no_parts (contents_of file)) (whole_layout file) (ap (option_map shown) (sym e) ∙ is)

  pub filled_questions : (l : Layout) → found ≡ Some l → first_no (cell_questions (cell_in l.cells.now) 0 (length l.cells.now)) ≡ first_no (file_questions file (length store))
  filled_questions l e = found_questions file (length store) asked (shown l) (some_found l e) ∙ (passed_before file store asked).0

  pub filled_store : (l : Layout) → found ≡ Some l → placed (λ k. k) 0 (cells_from (cell_in l.cells.now) 0 (length l.cells.now)) store ≡ stored file store
  filled_store l e = ap (λ cells. placed (λ k. k) 0 cells store) (found_cells file (length store) asked (shown l) (some_found l e)) ∙ (passed_before file store asked).1

  -- no layout: no cells
  pub empty_questions : found ≡ None → None ≡ first_no (file_questions file (length store))
  empty_questions e =
      sym (ap (λ b. first_no (cell_questions (cell_of_file file) 0 (cond b 0 (count_of_cells file)))) (none_found e)) ∙ (passed_before file store asked).0

  pub empty_store : found ≡ None → store ≡ stored file store
  empty_store e =
      sym (ap (λ b. placed (λ k. k) 0 (cells_from (cell_of_file file) 0 (cond b 0 (count_of_cells file))) store) (none_found e)) ∙ (passed_before file store asked).1
