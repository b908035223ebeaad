use Rattle.decimal.proofs.Tens.{ten_at}
use Rattle.decimal.proofs.amount.ten_to.Goals as goal

pub returns : goal.returns
returns c = ten_at c.args.power c.requires
