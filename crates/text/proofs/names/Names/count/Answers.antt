use Rattle.std.proofs.Common.{sym}
use Rattle.text.proofs.NameLaws.{names_length}
use Rattle.text.proofs.names.Names.count.Goals as goal

pub returns-clause-names : goal.returns-clause-names
returns-clause-names c = sym (names_length c.args.self.now.text.now c.args.self.now.ends.now)
