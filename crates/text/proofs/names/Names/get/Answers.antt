use Rattle.std.proofs.Common.{rules}
use Rattle.text.proofs.NameLaws.{name_listed}
use Rattle.text.proofs.names.Names.get.Goals as goal

pub returns-clause-listed : goal.returns-clause-listed
returns-clause-listed c = name_listed c.args.self.now.text.now c.args.self.now.ends.now c.args.index c.in_ok-end.ensures.lookup.3.0 c.get-2.result (search rules)
