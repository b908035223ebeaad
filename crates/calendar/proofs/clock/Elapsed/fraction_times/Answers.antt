use Rattle.std.proofs.Common.{◌^◌, lit≤, arith, rules}
use Rattle.calendar.proofs.Fractions.{fraction_by, fraction_by_under}
use Rattle.calendar.proofs.clock.Elapsed.fraction_times.Goals as goal

pub returns : goal.returns
returns c =
    let x = c.args.self in
    rw c.from.ensures (fraction_by x.amount c.fract.result c.args.units (search rules) x.bounded (omega arith) c.fract.ensures)

pub invariant_of-result : goal.invariant_of-result
invariant_of-result c =
    let x = c.args.self in
    record { bounded = rw c.from.ensures (fraction_by_under x.amount c.fract.result c.args.units (2 ^ 32) (search rules) x.bounded (omega arith) (lit≤ tt) c.fract.ensures) }
