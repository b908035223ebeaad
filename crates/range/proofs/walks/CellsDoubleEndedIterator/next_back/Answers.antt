use Rattle.std.proofs.Common.{arith, rules}
use Rattle.std.specs.Iterator.Adapters.{enumerate_count}
use Rattle.range.proofs.Taking.{last_cell}
use Rattle.range.proofs.walks.CellsDoubleEndedIterator.next_back.Goals as goal

pub returns : goal.returns
returns g c =
    let walk = c.args.self.now in
    let told = c.in_ok-place.ensures.steps in
    let taken = last_cell walk.width (enumerate_count walk.cells) c.in_ok-place.place _ _ c.in_ok-place.back.now told.1.0 told.1.1 in
    record { steps = grind (arith, taken); goes = search rules }
