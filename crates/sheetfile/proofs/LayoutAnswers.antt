-- The answers of the questions before the cells of a sheet that is not empty.
use Rattle.std.proofs.Common.{◌≡◌, ℕ, ◌+◌, ◌*◌, true, false, cond, List, length, Some, None, Option, sym, ap, ◌∙◌, ⊎_elim, arith}
use Rattle.std.proofs.lemmas.Bool.{cases_Bool}
use Rattle.std.specs.Array.{IsWholeChunk}
use Rattle.std.specs.Simd.{first_chunks}
use Rattle.questions.specs.Questions.{Refusal, first_no, bare}
use Rattle.range.specs.Shapes.{Lawful, rows_of, columns_of}
use Rattle.range.specs.declared.corners.Corners.{Corners}
use Rattle.sheetfile.specs.Bytes.{valued, part}
use Rattle.sheetfile.specs.Contents.{contents_of, no_parts, lawful}
use Rattle.sheetfile.specs.Files.{corners_at, file_corners, count_of_cells, shape_questions, layout_questions, file_layout, SheetParts, IsParted}
use Rattle.sheetfile.specs.declared.asking.Parts.{Parts}
use Rattle.sheetfile.proofs.LittleEndian.{part_of_part, length_part}
use Rattle.sheetfile.proofs.LayoutLaws.{no_parts_facts, lawful_laid, passed_on}

abbrev laid_out : Corners → List (List ℕ) → List ℕ → SheetParts
laid_out k cells text = record { corners = k; cells = cells; text = text }

-- the corners of bytes that are part of a file
corners_part : (file : List ℕ) (at : ℕ) → corners_at (part at 16 file) 0 ≡ corners_at file at
corners_part file at =
    let none : at + 0 ≡ at = omega arith in
    let first_row = ap valued (part_of_part file at 16 0 4 (omega arith) ∙ ap (λ n. part n 4 file) none) in
    let first_column = ap valued (part_of_part file at 16 4 4 (omega arith)) in
    let last_row = ap valued (part_of_part file at 16 8 4 (omega arith)) in
    let last_column = ap valued (part_of_part file at 16 12 4 (omega arith)) in
    cc

module _ (file : List ℕ) (parts : Parts) (p : IsParted file parts) (shape : List ℕ) (whole : IsWholeChunk parts.shape.now shape 16) (k : Corners) (at : k ≡ corners_at shape 0) where
  -- the parts have the lengths of the table of contents
  shape_length : (contents_of file).shape.len ≡ 16
  shape_length =
      let laid = lawful_laid file p.lawful in
      omega (arith, whole.long, ap length p.shape, length_part (contents_of file).shape.place (contents_of file).shape.len file (omega (arith, laid.second, laid.third, laid.ends)))

  cells_length : length parts.cells.now ≡ (contents_of file).cells.len
  cells_length =
      let laid = lawful_laid file p.lawful in
      ap length p.cells ∙ length_part (contents_of file).cells.place (contents_of file).cells.len file (omega (arith, laid.third, laid.ends))

  some : no_parts (contents_of file) ≡ false
  some = ⊎_elim (λ (e : no_parts (contents_of file) ≡ true). absurd (omega (arith, shape_length, (no_parts_facts (contents_of file) e).0))) (λ (e : no_parts (contents_of file) ≡ false). e) (cases_Bool (no_parts (contents_of file)))

  corners_are : k ≡ file_corners file
  corners_are =
      at
      ∙ ap (λ l. corners_at l 0) (whole.same ∙ p.shape ∙ ap (λ n. part (contents_of file).shape.place n file) shape_length)
      ∙ corners_part file (contents_of file).shape.place

  -- the shape's own answer
  pub shape_answer : (room : ℕ) (x : Option Refusal) → x ≡ first_no (shape_questions k (length parts.cells.now) room) → x ≡ first_no (layout_questions file room)
  shape_answer room x e =
      e
      ∙ ap (λ (j : Corners). first_no (shape_questions j (length parts.cells.now) room)) corners_are
      ∙ ap (λ n. first_no (shape_questions (file_corners file) n room)) cells_length
      ∙ passed_on (lawful file) (no_parts (contents_of file)) (bare 18) (shape_questions (file_corners file) (contents_of file).cells.len room) p.lawful some

  -- and where it lies
  pub layout_answer : (cells : List (List ℕ)) → Lawful k (length cells) → cells ≡ first_chunks 9 (length cells) parts.cells.now → Some (laid_out k cells parts.text.now) ≡ file_layout file
  layout_answer cells shaped cut =
      let count : length cells ≡ count_of_cells file = shaped.counted ∙ ap (λ (j : Corners). rows_of j * columns_of j) corners_are in
      let bytes : cells ≡ first_chunks 9 (count_of_cells file) (part (contents_of file).cells.place (contents_of file).cells.len file) =
      cut ∙ ap (λ n. first_chunks 9 n parts.cells.now) count ∙ ap (first_chunks 9 (count_of_cells file)) p.cells
      in
      let same = corners_are in
      let text = p.text in
      let all : laid_out k cells parts.text.now ≡ laid_out (file_corners file) (first_chunks 9 (count_of_cells file) (part (contents_of file).cells.place (contents_of file).cells.len file)) (part (contents_of file).text.place (contents_of file).text.len file) = cc in
      ap (λ l. Some l) all
      ∙ sym (ap (λ b. cond b None (Some (laid_out (file_corners file) (first_chunks 9 (count_of_cells file) (part (contents_of file).cells.place (contents_of file).cells.len file)) (part (contents_of file).text.place (contents_of file).text.len file)))) some)
