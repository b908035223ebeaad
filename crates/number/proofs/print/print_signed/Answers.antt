use Rattle.std.proofs.Common.{◌≡◌, ◌∙◌, ◌+◌, ◌-◌, append-nil, arith, rules}
use Rattle.std.proofs.lemmas.Fmt.{length-decimal-le}
use Rattle.std.proofs.lemmas.List.{drop-set}
use Rattle.number.proofs.Printing.{room}
use Rattle.number.proofs.print.print_signed.Goals as goal
use Rattle.number.proofs.print.print_signed.Goals.{then-whole, else-whole}

pub write_digits-start-requires : goal.write_digits-start-requires
write_digits-start-requires c = (length-decimal-le 20 _ (omega arith) (omega arith) (omega arith), omega arith)

pub overflow_sub-start : goal.overflow_sub-start
overflow_sub-start c = room _ _ c.write_digits-start.ensures.start (omega arith)

pub returns : goal.returns
returns c =
    let d = c.write_digits-start in
    let r = room _ _ d.ensures.start (omega arith) in
    let digits = d.ensures.written ∙ append-nil _ in
    elim c.if-whole.branch [
      | then-whole w ↦ let e : d.result - 1 + 1 ≡ d.result = omega arith in search (rules, digits, e, drop-set d.new.buf (d.result - 1) 45 (omega arith))
      | else-whole w ↦ search (rules, digits)
    ]
