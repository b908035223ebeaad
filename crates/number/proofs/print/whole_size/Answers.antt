use Rattle.std.proofs.Common.{◌∙◌, sym, true≢false, arith}
use Rattle.std.proofs.lemmas.Bool.{le-ltb}
use Rattle.number.proofs.Wholes.{of_nan, is_whole, no_whole}
use Rattle.number.proofs.Reading.{told}
use Rattle.number.proofs.print.whole_size.Goals as goal
use Rattle.number.proofs.print.whole_size.Goals.{then-size, else-size}

pub returns-then-is_nan : goal.returns-then-is_nan
returns-then-is_nan c = of_nan c.args.x c.if-is_nan.ensures.value

pub returns : goal.returns
returns c =
    let m = c.abs-magnitude in
    let n = c.saturating_f64_to_u64-size in
    let s = c.is_sign_negative-minus in
    elim c.if-size.branch [
      | then-size w ↦
          told _ _ _ _ _ c.then_some.ensures
          (λ t. is_whole c.args.x m.result n.result s.result m.ensures.value n.ensures s.ensures w.if-size.true (sym w.then_some-is ∙ t) (sym c.if-is_nan.ensures.value))
          (λ f. no_whole c.args.x m.result n.result m.ensures.value n.ensures (λ h. sym w.then_some-is ∙ f))
      | else-size w ↦
          told _ _ _ _ _ c.then_some.ensures (λ t. absurd (true≢false (sym t ∙ (w.then_some-is ∙ le-ltb _ _ w.if-size.false))))
          (λ f. no_whole c.args.x m.result n.result m.ensures.value n.ensures (λ h. let z : ⊥ = omega (arith, w.if-size.false) in absurd z))
    ]
