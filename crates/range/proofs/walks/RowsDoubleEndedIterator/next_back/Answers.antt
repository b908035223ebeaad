use Rattle.std.proofs.Common.{length, arith, rules}
use Rattle.range.proofs.Places.{row_fits}
use Rattle.range.proofs.Taking.{last_row}
use Rattle.range.proofs.walks.RowsDoubleEndedIterator.next_back.Goals as goal

pub overflow_sub-before : goal.overflow_sub-before
overflow_sub-before g c =
    let rows = c.args.self.now in
    omega (arith, row_fits rows.left rows.width (length rows.cells.now) (omega arith) rows.whole)

pub returns : goal.returns
returns g c =
    let rows = c.args.self.now in
    record {
      steps = last_row rows.left rows.width _ rows.cells.now _ _ (omega arith) rows.whole (omega arith) c.split_at.ensures.front c.split_at.ensures.back;
      goes = search rules;
    }
