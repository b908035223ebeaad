use Rattle.std.proofs.Common.{rules}
use Rattle.std.proofs.lemmas.Str.{IsUtf8-from_ascii}
use Rattle.text.proofs.Whole.{is_utf8_as}
use Rattle.text.proofs.utf8.is_utf8.Goals as goal

pub returns-then-is_short_ascii-clause-law : goal.returns-then-is_short_ascii-clause-law
returns-then-is_short_ascii-clause-law c = search (rules, IsUtf8-from_ascii)

pub returns-then-is_short_ascii-clause-is : goal.returns-then-is_short_ascii-clause-is
returns-then-is_short_ascii-clause-is c = is_utf8_as c.args.bytes.now _ (search (rules, IsUtf8-from_ascii))

pub returns-else-is_short_ascii-clause-is : goal.returns-else-is_short_ascii-clause-is
returns-else-is_short_ascii-clause-is c = is_utf8_as c.args.bytes.now _ (search rules)
