use Rattle.std.proofs.Common.{◌∙◌, arith}
use Rattle.sheetfile.proofs.LittleEndian.{number_at}
use Rattle.sheetfile.proofs.asking.corners.Goals as goal

pub returns : goal.returns
returns c =
    let numbers = c.as_chunks.result.0.now in
    let cut = c.as_chunks.ensures.front in
    let first_row = c.from_le_bytes.ensures ∙ number_at 0 c.args.shape numbers cut (omega arith) in
    let first_column = c.from_le_bytes-2.ensures ∙ number_at 1 c.args.shape numbers cut (omega arith) in
    let last_row = c.from_le_bytes-3.ensures ∙ number_at 2 c.args.shape numbers cut (omega arith) in
    let last_column = c.from_le_bytes-4.ensures ∙ number_at 3 c.args.shape numbers cut (omega arith) in
    cc
