use Rattle.std.proofs.Common.{◌∙◌, arith}
use Rattle.sheetfile.proofs.ContentsParts.{entry_at}
use Rattle.sheetfile.proofs.contents.ContentsFromArrayU824.from.Goals as goal

pub returns : goal.returns
returns c =
    let extents = c.as_chunks.result.0.now in
    let cut = c.as_chunks.ensures.front in
    let shape = c.from.ensures ∙ entry_at 0 c.args.bytes extents cut (omega arith) in
    let cells = c.from-2.ensures ∙ entry_at 1 c.args.bytes extents cut (omega arith) in
    let text = c.from-3.ensures ∙ entry_at 2 c.args.bytes extents cut (omega arith) in
    cc
