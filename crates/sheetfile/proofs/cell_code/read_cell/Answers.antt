use Rattle.std.proofs.Common.{◌≡◌, ◌-◌, length, drop, ap, ◌∙◌, arith, length-drop}
use Rattle.sheetfile.proofs.LittleEndian.{eight}
use Rattle.sheetfile.proofs.CellCodes.{decoded_by}
use Rattle.sheetfile.proofs.cell_code.read_cell.Goals as goal

pub returns : goal.returns
returns c =
    let bytes = c.args.bytes.now in
    let content = c.unwrap-content.result.now in
    let long : length bytes ≡ 9 = omega arith in
    let last = rw c.unwrap-content.ensures at c.last_chunk.ensures.cases in
    let one : length bytes - 8 ≡ 1 = omega arith in
    let rest : content ≡ drop 1 bytes = last.1.same ∙ ap (λ n. drop n bytes) one in
    let eight_long : length content ≡ 8 = omega (arith, ap length rest, length-drop 1 bytes) in
    c.cell_of.ensures ∙ decoded_by bytes content _ _ _ long rest (c.from_le_bytes.ensures ∙ eight content eight_long) (ap (λ e. e.place) c.from-place.ensures) (ap (λ e. e.len) c.from-place.ensures)
