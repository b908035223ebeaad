use Rattle.std.proofs.Common.{rules}
use Rattle.calendar.proofs.Acceptance.{below_zero, past_end, under}
use Rattle.calendar.proofs.clock.Elapsed.from_serial.Goals as goal
use Rattle.calendar.proofs.clock.Elapsed.from_serial.Goals.{then-not-serial-via-then-not-serial, then-not-serial-via-else-not-serial+then-serial}

pub returns-then-not-serial-clause-accepts : goal.returns-then-not-serial-clause-accepts
returns-then-not-serial-clause-accepts c is1904 = elim c.then-not-serial.branch [
  | then-not-serial-via-then-not-serial w ↦ search (rules, below_zero)
  | then-not-serial-via-else-not-serial+then-serial w ↦ search (rules, past_end)
]

pub invariant_of-result : goal.invariant_of-result
invariant_of-result c =
    let bounded = under c.args.serial c.if-not-serial.false c.if-serial.false in
    record { bounded = rw c.abs.ensures.value bounded }
