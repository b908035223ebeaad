-- A file that is read: all its cells are good, they stand in the front of the store, and it is readable.
use Rattle.std.proofs.Common.{◌≡◌, ℕ, zero, suc, ◌+◌, ◌*◌, ◌<◌, ◌≤◌, true, false, cond, List, [], ◌∷◌, ◌++◌, length, take, drop, set, is_some, Some, None, Option, sym, refl, ap, ◌∙◌, subst, ⊎_elim, append_assoc, arith, length-set}
use Rattle.std.proofs.lemmas.List.{take-append-drop, take_at, take_more_set, drop-set-lt}
use Rattle.std.proofs.lemmas.Bool.{eq-eqb, le-leb, both_ways, cases_Bool}
use Rattle.std.specs.List.{slice_get}
use Rattle.questions.specs.Questions.{first_no, bare}
use Rattle.questions.proofs.QuestionLaws.{first_yes, no_in_second, both_lots}
use Rattle.range.proofs.ShapeLaws.{lawful_tests, tests_lawful}
use Rattle.datatype.specs.declared.data.Data.{Data}
use Rattle.sheetfile.specs.Contents.{contents_of, no_parts, lawful}
use Rattle.sheetfile.specs.Files.{bad_cell, met, file_corners, count_of_cells, shape_questions, layout_questions, cell_questions, cells_from, placed}
use Rattle.sheetfile.specs.Reading.{cell_of_file, sheet_count, file_questions, Readable}
use Rattle.sheetfile.proofs.LayoutLaws.{laid_lawful, lawful_laid, passed_alone, passed_on, no_parts_facts}
use Rattle.sheetfile.proofs.FillLaws.{laid_out}

-- ---- cells that are all good
module _ (cell : ℕ → Option Data) where
  pub asked_good : (k n : ℕ) → None ≡ first_no (cell_questions cell k n) → (j : ℕ) → j < n → is_some (cell (k + j)) ≡ true
  asked_good k zero e j lt = absurd (omega arith)
  asked_good k (suc n) e zero lt =
      let none : k ≡ k + 0 = omega arith in
      ap (λ i. is_some (cell i)) (sym none) ∙ (first_yes (is_some (cell k)) (bad_cell k) (cell_questions cell (k + 1) n) e).0
  asked_good k (suc n) e (suc j) lt =
      let next : k + 1 + j ≡ k + suc j = omega arith in
      ap (λ i. is_some (cell i)) (sym next) ∙ asked_good (k + 1) n (first_yes (is_some (cell k)) (bad_cell k) (cell_questions cell (k + 1) n) e).1 j (omega arith)

  pub good_asked : (k n : ℕ) → ((j : ℕ) → j < n → is_some (cell (k + j)) ≡ true) → None ≡ first_no (cell_questions cell k n)
  good_asked k zero h = refl
  good_asked k (suc n) h =
      let none : k + 0 ≡ k = omega arith in
      let here : is_some (cell k) ≡ true = ap (λ i. is_some (cell i)) (sym none) ∙ h 0 (omega arith) in
      good_asked (k + 1) n (λ j lt. let next : k + 1 + j ≡ k + suc j = omega arith in ap (λ i. is_some (cell i)) next ∙ h (suc j) (omega arith))
      ∙ sym (ap (λ b. cond b (first_no (cell_questions cell (k + 1) n)) (Some (bad_cell k))) here)

  step_length : (o : Option Data) (f : Data → List Data) (m : ℕ) → is_some o ≡ true → ((x : Data) → length (f x) ≡ m) → length (met o f []) ≡ m
  step_length None f m e h = absurd (grind arith)
  step_length (Some x) f m e h = h x

  pub good_length : (k n : ℕ) → ((j : ℕ) → j < n → is_some (cell (k + j)) ≡ true) → length (cells_from cell k n) ≡ n
  good_length k zero h = refl
  good_length k (suc n) h =
      let none : k + 0 ≡ k = omega arith in
      let here : is_some (cell k) ≡ true = ap (λ i. is_some (cell i)) (sym none) ∙ h 0 (omega arith) in
      let rest = good_length (k + 1) n (λ j lt. let next : k + 1 + j ≡ k + suc j = omega arith in ap (λ i. is_some (cell i)) next ∙ h (suc j) (omega arith)) in
      step_length (cell k) (λ c. c ∷ cells_from cell (k + 1) n) (suc n) here (λ x. ap suc rest)

  step_first : (o : Option Data) (xs : List Data) → is_some o ≡ true → slice_get (met o (λ c. c ∷ xs) []) 0 ≡ o
  step_first None xs e = absurd (both_ways false refl e)
  step_first (Some x) xs e = refl

  step_later : (o : Option Data) (xs : List Data) (j : ℕ) → is_some o ≡ true → slice_get (met o (λ c. c ∷ xs) []) (suc j) ≡ slice_get xs j
  step_later None xs j e = absurd (both_ways false refl e)
  step_later (Some x) xs j e = refl

  pub good_nth : (k n : ℕ) → ((j : ℕ) → j < n → is_some (cell (k + j)) ≡ true) → (j : ℕ) → j < n → slice_get (cells_from cell k n) j ≡ cell (k + j)
  good_nth k zero h j lt = absurd (omega arith)
  good_nth k (suc n) h zero lt =
      let none : k + 0 ≡ k = omega arith in
      step_first (cell k) (cells_from cell (k + 1) n) (ap (λ i. is_some (cell i)) (sym none) ∙ h 0 (omega arith)) ∙ ap cell (sym none)
  good_nth k (suc n) h (suc j) lt =
      let none : k + 0 ≡ k = omega arith in
      let next : k + 1 + j ≡ k + suc j = omega arith in
      step_later (cell k) (cells_from cell (k + 1) n) j (ap (λ i. is_some (cell i)) (sym none) ∙ h 0 (omega arith))
      ∙ good_nth (k + 1) n (λ i lt'. let on : k + 1 + i ≡ k + suc i = omega arith in ap (λ m. is_some (cell m)) on ∙ h (suc i) (omega arith)) j (omega arith)
      ∙ ap cell next

-- ---- cells placed row after row
pub placed_front : {C : Type 0} (k : ℕ) (cs store : List C) → k + length cs ≤ length store → placed (λ i. i) k cs store ≡ take k store ++ (cs ++ drop (k + length cs) store)
placed_front k [] store le = let none : k ≡ k + 0 = omega arith in sym (take-append-drop k store) ∙ ap (λ n. take k store ++ drop n store) none
placed_front k (c ∷ cs) store le =
    let lt : k < length store = omega arith in
    let long = length-set store k c in
    let next : k + 1 + length cs ≡ k + suc (length cs) = omega arith in
    placed_front (k + 1) cs (set store k c) (omega arith)
    ∙ ap (λ l. l ++ (cs ++ drop (k + 1 + length cs) (set store k c))) (take_more_set store k c lt)
    ∙ ap (λ l. (take k store ++ (c ∷ [])) ++ (cs ++ l)) (drop-set-lt (k + 1 + length cs) store k c (omega arith))
    ∙ ap (λ n. (take k store ++ (c ∷ [])) ++ (cs ++ drop n store)) next
    ∙ append_assoc (take k store) (c ∷ []) (cs ++ drop (k + suc (length cs)) store)

-- all of them, at the front
pub placed_taken : {C : Type 0} (n : ℕ) (cs store after : List C) → length cs ≡ n → n ≤ length store → after ≡ placed (λ i. i) 0 cs store → take n after ≡ cs
placed_taken n cs store after long fits e =
    ap (take n) (e ∙ placed_front 0 cs store (omega arith)) ∙ take_at cs (drop (0 + length cs) store) n long

-- ---- readable, both ways
pub no_count : (file : List ℕ) → no_parts (contents_of file) ≡ true → sheet_count file ≡ 0
no_count file none = ap (λ b. cond b 0 (count_of_cells file)) none

pub some_count : (file : List ℕ) → no_parts (contents_of file) ≡ false → sheet_count file ≡ count_of_cells file
some_count file some = ap (λ b. cond b 0 (count_of_cells file)) some

pub from_zero : (cell : ℕ → Option Data) (n : ℕ) → ((k : ℕ) → k < n → is_some (cell k) ≡ true) → (j : ℕ) → j < n → is_some (cell (0 + j)) ≡ true
from_zero cell n h j lt = let z : j ≡ 0 + j = omega arith in ap (λ i. is_some (cell i)) (sym z) ∙ h j lt

-- a yes to the questions before the cells
layout_asked : (file : List ℕ) (room : ℕ) → Readable file room → None ≡ first_no (layout_questions file room)
layout_asked file room r =
    let k = file_corners file in
    let ok = laid_lawful file r.laid in
    let asked = shape_questions k (contents_of file).cells.len room in
    ⊎_elim
    (λ (none : no_parts (contents_of file) ≡ true). passed_alone (lawful file) (no_parts (contents_of file)) (bare 18) asked ok none)
    (λ (some : no_parts (contents_of file) ≡ false).
    let count = some_count file some in
    let t = lawful_tests k (count_of_cells file) (r.shape some) in
    let nine = eq-eqb (contents_of file).cells.len (9 * count_of_cells file) (r.bytes ∙ ap (λ n. 9 * n) count) in
    let takes = le-leb (count_of_cells file) room (subst (λ n. n ≤ room) count r.fits) in
    let yes : None ≡ first_no asked = rw (t.0, t.1, nine, takes) in
    yes ∙ passed_on (lawful file) (no_parts (contents_of file)) (bare 18) asked ok some)
    (cases_Bool (no_parts (contents_of file)))

-- a readable file is asked nothing that it does not answer by yes
pub readable_asked : (file : List ℕ) (room : ℕ) → Readable file room → None ≡ first_no (file_questions file room)
readable_asked file room r =
    good_asked (cell_of_file file) 0 (sheet_count file) (from_zero (cell_of_file file) (sheet_count file) r.cells)
    ∙ no_in_second (layout_questions file room) (cell_questions (cell_of_file file) 0 (sheet_count file)) (layout_asked file room r)

-- and a file that answers every question by yes is readable
pub asked_readable : (file : List ℕ) (room : ℕ) → None ≡ first_no (file_questions file room) → Readable file room
asked_readable file room e =
    let lots = both_lots (layout_questions file room) (cell_questions (cell_of_file file) 0 (sheet_count file)) e in
    let cells : (k : ℕ) → k < sheet_count file → is_some (cell_of_file file k) ≡ true = λ k lt. let z : k ≡ 0 + k = omega arith in ap (λ i. is_some (cell_of_file file i)) z ∙ asked_good (cell_of_file file) 0 (sheet_count file) lots.1 k lt in
    let laid = lawful_laid file (first_yes (lawful file) (bare 18) (cond (no_parts (contents_of file)) [] (shape_questions (file_corners file) (contents_of file).cells.len room)) lots.0).0 in
    ⊎_elim
    (λ (none : no_parts (contents_of file) ≡ true).
    let count = no_count file none in
    record {
      laid = laid;
      shape = λ some. absurd (both_ways (no_parts (contents_of file)) some none);
      bytes = (no_parts_facts (contents_of file) none).1 ∙ sym (ap (λ n. 9 * n) count);
      fits = subst (λ n. n ≤ room) (sym count) (omega arith);
      cells = cells;
    })
    (λ (some : no_parts (contents_of file) ≡ false).
    let count = some_count file some in
    let l = laid_out file room lots.0 some in
    record {
      laid = laid;
      shape = λ _. tests_lawful (file_corners file) (count_of_cells file) l.forwards l.within refl;
      bytes = l.bytes ∙ sym (ap (λ n. 9 * n) count);
      fits = subst (λ n. n ≤ room) (sym count) l.fits;
      cells = cells;
    })
    (cases_Bool (no_parts (contents_of file)))
