use Rattle.number.proofs.Zero.{eq_zero}
use Rattle.number.proofs.float.is_zero.Goals as goal

pub returns : goal.returns
returns c = eq_zero c.args.x
