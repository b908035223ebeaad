use Rattle.std.proofs.Common.{◌≡◌, sym, subst, rules}
use Rattle.text.specs.Trimming.{trimmed, Trims}
use Rattle.text.proofs.LibraryTrim.{trimmed_is}
use Rattle.text.proofs.TrimLaws.{trimmed_other, trimmed_trims, trims_only}
use Rattle.text.proofs.trim.trim.Goals as goal

pub returns : goal.returns
returns c =
    let bs = c.args.bytes.now in
    let is : c.map_or.result.now ≡ trimmed bs = search (rules, trimmed_is, trimmed_other) in
    record { is = is; law = subst (Trims bs) (sym is) (trimmed_trims bs); only = trims_only bs }
