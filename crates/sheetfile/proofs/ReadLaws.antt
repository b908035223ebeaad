-- Cells read one after another, up to the first that is none.
use Rattle.std.proofs.Common.{◌≡◌, ℕ, suc, ◌+◌, ◌-◌, ◌<◌, cond, List, [], ◌∷◌, set, is_some, Some, Option, sym, ap, ◌∙◌, arith}
use Rattle.questions.specs.Questions.{first_no}
use Rattle.datatype.specs.declared.data.Data.{Data}
use Rattle.sheetfile.specs.Files.{bad_cell, met, cell_questions, cells_from, placed}

module _ (cell : ℕ → Option Data) (place : ℕ → ℕ) (store : List Data) (count k : ℕ) where
  -- so many are left, at least one
  left_more : k < count → count - k ≡ suc (count - (k + 1))
  left_more lt = omega arith

  -- the k-th is a cell: it goes to its place, and the others are as they would be
  pub good_questions : (x : Data) → k < count → cell k ≡ Some x → first_no (cell_questions cell (k + 1) (count - (k + 1))) ≡ first_no (cell_questions cell k (count - k))
  good_questions x lt e =
      sym (ap (λ n. first_no (cell_questions cell k n)) (left_more lt)
      ∙ ap (λ o. cond (is_some o) (first_no (cell_questions cell (k + 1) (count - (k + 1)))) (Some (bad_cell k))) e)

  pub good_cells : (x : Data) → k < count → cell k ≡ Some x → placed place (k + 1) (cells_from cell (k + 1) (count - (k + 1))) (set store (place k) x) ≡ placed place k (cells_from cell k (count - k)) store
  good_cells x lt e =
      sym (ap (λ n. placed place k (cells_from cell k n) store) (left_more lt)
      ∙ ap (λ o. placed place k (met o (λ c. c ∷ cells_from cell (k + 1) (count - (k + 1))) []) store) e)
