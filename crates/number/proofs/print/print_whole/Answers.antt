use Rattle.std.proofs.Common.{◌≡◌, ap, ◌∙◌, rules}
use Rattle.number.specs.Forms.{whole_text}
use Rattle.number.specs.Numerals.{whole_of_text}
use Rattle.number.specs.Stamp.{printed_text}
use Rattle.number.specs.Widths.{signed}
use Rattle.number.proofs.Reading.{whole_back}
use Rattle.number.proofs.print.print_whole.Goals as goal

pub returns-clause-back : goal.returns-clause-back
returns-clause-back c =
    let text : printed_text c.print_signed.result ≡ whole_text c.args.n = search rules in
    ap (whole_of_text (signed 63)) text ∙ whole_back c.args.n c.ranges.n.sfits
