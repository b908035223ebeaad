use Rattle.std.proofs.Common.{◌∙◌, arith}
use Rattle.number.proofs.Reading.{read_too_large}
use Rattle.number.proofs.digits.read_digits.Goals as goal

pub returns-in_err-tens : goal.returns-in_err-tens
returns-in_err-tens c =
    let l = c.loop-digit in
    c.from_residual.ensures
    ∙ read_too_large l.number c.args.after l.digit-index c.args.digits.now c.loop-digit-test.true l.invariant.1 (omega (arith, c.in_err-tens.ensures))

pub returns-in_err-number : goal.returns-in_err-number
returns-in_err-number c =
    let l = c.loop-digit in
    c.from_residual-in_err-number.ensures
    ∙ read_too_large l.number c.args.after l.digit-index c.args.digits.now c.loop-digit-test.true l.invariant.1 (omega (arith, c.in_err-number.ensures, c.in_ok-tens.ensures, c.from.ensures))
