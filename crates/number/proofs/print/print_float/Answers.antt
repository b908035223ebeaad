use Rattle.number.proofs.Wholes.{float_back}
use Rattle.number.proofs.print.print_float.Goals as goal

pub returns-clause-back : goal.returns-clause-back
returns-clause-back c = float_back c.args.x
