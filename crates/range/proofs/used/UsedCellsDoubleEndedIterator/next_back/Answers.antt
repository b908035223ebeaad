use Rattle.std.proofs.Common.{rules, tests}
use Rattle.range.specs.Used.{empty_over}
use Rattle.range.specs.Walks.{cell_shown, cells_left}
use Rattle.range.proofs.UsedLaws.{back_found}
use Rattle.range.proofs.used.UsedCellsDoubleEndedIterator.next_back.Goals as goal

pub returns : goal.returns
returns g c =
    let walk = c.args.self.now in
    let taken =
    back_found cell_shown cells_left (empty_over g.T.Cell.meaning walk.text.now) _ walk.cells c.rfind.new.self c.rfind.result c.rfind.ensures.ran
    (λ x q k. search (rules, tests)) (λ x q k. search (rules, tests)) in
    record { steps = search (rules, taken); goes = search rules }
