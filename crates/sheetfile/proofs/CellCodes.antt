-- The nine bytes of a cell.
use Rattle.std.proofs.Common.{◌≡◌, ℕ, List, [], ◌∷◌, length, get_or, take, drop, ap, ◌∙◌, arith, length-drop}
use Rattle.std.proofs.lemmas.List.{take_all}
use Rattle.datatype.specs.declared.data.TextPart.{TextPart}
use Rattle.sheetfile.specs.Bytes.{valued, part}
use Rattle.sheetfile.specs.CellCode.{cell_of, decoded}

abbrev text_at : ℕ → ℕ → TextPart
text_at place len = record { place = place; len = len }

-- a cell by its kind, and by the numbers that the eight bytes after it stand for
pub decoded_by : (bytes content : List ℕ) (n place len : ℕ) → length bytes ≡ 9 → content ≡ drop 1 bytes → n ≡ valued content → place ≡ valued (part 0 4 content) → len ≡ valued (part 4 4 content) → cell_of (get_or bytes 0 0) n (text_at place len) ≡ decoded bytes
unfolding decoded
decoded_by [] content n place len long is a b d = absurd (omega arith)
decoded_by (kind ∷ bs) content n place len long is a b d =
    let rest : take 4 (drop 4 bs) ≡ drop 4 bs = take_all 4 (drop 4 bs) (omega (arith, length-drop 4 bs)) in
    let number = a ∙ ap valued is in
    let start = b ∙ ap (λ l. valued (take 4 l)) is in
    let size = d ∙ ap (λ l. valued (take 4 (drop 4 l))) is ∙ ap valued rest in
    cc
