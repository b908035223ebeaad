use Rattle.std.proofs.Common.{take, drop, sym, ap, ◌∙◌, arith}
use Rattle.sheetfile.specs.Contents.{contents_of}
use Rattle.sheetfile.proofs.ContentsParts.{contents_front}
use Rattle.sheetfile.proofs.Parting.{front_lawful, shape_cut, cells_cut, text_cut}
use Rattle.sheetfile.proofs.asking.cut.Goals as goal

pub returns-then-not-is_lawful : goal.returns-then-not-is_lawful
returns-then-not-is_lawful c =
    let front = c.from-contents.ensures ∙ ap contents_of c.in_ok-contents.ensures.cases.0 in
    sym (front_lawful c.args.file.now c.from-contents.result (omega (arith, c.in_ok-contents.ensures.cases.2)) front) ∙ sym c.is_lawful.ensures ∙ c.if-not-is_lawful.true

pub returns : goal.returns
returns c =
    let file = c.args.file.now in
    let contents = c.from-contents.result in
    let front = c.from-contents.ensures ∙ ap contents_of c.in_ok-contents.ensures.cases.0 in
    let ok = sym (front_lawful file contents (omega (arith, c.in_ok-contents.ensures.cases.2)) front) ∙ sym c.is_lawful.ensures ∙ c.if-not-is_lawful.false in
    let is = front ∙ contents_front file in
    let body = c.in_ok-contents.ensures.cases.1 in
    let behind_shape = c.split_at.ensures.back ∙ ap (drop contents.shape.len) body in
    record {
      lawful = ok;
      shape = c.split_at.ensures.front ∙ ap (take contents.shape.len) body ∙ shape_cut file ok contents is;
      cells = c.split_at-2.ensures.front ∙ ap (take contents.cells.len) behind_shape ∙ cells_cut file ok contents is;
      text = c.split_at-2.ensures.back ∙ ap (drop contents.cells.len) behind_shape ∙ text_cut file ok contents is;
    }
