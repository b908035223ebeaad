use Rattle.std.proofs.Common.{sym, ◌∙◌, rules}
use Rattle.std.proofs.lemmas.Bool.{eqb-true, eqb-false}
use Rattle.number.proofs.Reading.{told}
use Rattle.decimal.proofs.Parting.{power_more, power_found}
use Rattle.decimal.proofs.split.split_power.Goals as goal
use Rattle.decimal.proofs.split.split_power.Goals.{then-not-is_empty, else-not-is_empty}

pub returns : goal.returns
returns c =
    let text = c.args.text.now in
    let s = c.split_sign-power in
    let d = c.split_digits in
    elim c.if-not-is_empty.branch [
      | then-not-is_empty w ↦
          told _ _ _ _ _ c.then_some.ensures
          (λ t. power_found text s.result.size.now d.result.0.now s.ensures.rest d.ensures.digits d.result.1.now s.result.minus s.ensures.minus d.ensures.rest
          (eqb-true _ _ (sym w.is_empty-then-not-is_empty.ensures ∙ (sym w.then_some-is ∙ t))) (eqb-false _ _ (sym w.if-not-is_empty.ensures)))
          (λ f. power_more text s.result.size.now d.result.0.now s.ensures.rest d.ensures.digits d.result.1.now d.ensures.rest
          (eqb-false _ _ (sym w.is_empty-then-not-is_empty.ensures ∙ (sym w.then_some-is ∙ f))))
      | else-not-is_empty w ↦ search rules
    ]
