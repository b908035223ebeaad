use Rattle.std.proofs.Common.{◌∙◌, arith}
use Rattle.sheetfile.proofs.LittleEndian.{number_at}
use Rattle.sheetfile.proofs.contents.ExtentFromArrayU88.from.Goals as goal

pub returns : goal.returns
returns c =
    let numbers = c.as_chunks.result.0.now in
    let cut = c.as_chunks.ensures.front in
    let place = c.from_le_bytes.ensures ∙ number_at 0 c.args.bytes numbers cut (omega arith) in
    let len = c.from_le_bytes-2.ensures ∙ number_at 1 c.args.bytes numbers cut (omega arith) in
    cc
