use Rattle.std.proofs.Common.{rules, tests}
use Rattle.range.specs.Used.{empty_over}
use Rattle.range.specs.Walks.{cell_shown, cells_left}
use Rattle.range.proofs.UsedLaws.{front_found}
use Rattle.range.proofs.used.UsedCellsIterator.next.Goals as goal

pub returns : goal.returns
returns g c =
    let walk = c.args.self.now in
    let taken =
    front_found cell_shown cells_left (empty_over g.T.Cell.meaning walk.text.now) _ walk.cells c.find.new.self c.find.result c.find.ensures.ran
    (λ x q k. search (rules, tests)) (λ x q k. search (rules, tests)) in
    record { steps = taken; goes = search rules }
