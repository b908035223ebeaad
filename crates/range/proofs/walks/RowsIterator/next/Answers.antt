use Rattle.std.proofs.Common.{length, arith, rules}
use Rattle.range.proofs.Places.{row_fits}
use Rattle.range.proofs.Taking.{first_row_cut}
use Rattle.range.proofs.walks.RowsIterator.next.Goals as goal

pub split_at-requires : goal.split_at-requires
split_at-requires g c =
    let rows = c.args.self.now in
    omega (arith, row_fits rows.left rows.width (length rows.cells.now) (omega arith) rows.whole)

pub returns : goal.returns
returns g c =
    let rows = c.args.self.now in
    let told = c.split_at.ensures in
    record {
      steps = first_row_cut rows.left rows.width rows.cells.now c.split_at.result.0.now c.split_at.result.1.now (omega arith) (grind (arith, told.front)) (grind (arith, told.back));
      goes = search rules;
    }
