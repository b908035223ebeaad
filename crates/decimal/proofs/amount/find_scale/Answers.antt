use Rattle.std.proofs.Common.{◌≡◌, sym, ◌∙◌}
use Rattle.number.specs.Widths.{under_sign}
use Rattle.decimal.proofs.Scales.{scale_told, falling, rising, less_places}
use Rattle.decimal.proofs.amount.find_scale.Goals as goal
use Rattle.decimal.proofs.amount.find_scale.Goals.{then-power, else-power}

pub returns : goal.returns
returns c =
    let a = c.args.power in
    let p : c.if-power.exponent ≡ under_sign a.minus a.size = elim c.if-power.branch [
      | then-power w ↦ sym c.if-power.exponent-is ∙ (w.exponent-is ∙ falling a.minus a.size c.requires w.if-power.true)
      | else-power w ↦ sym c.if-power.exponent-is ∙ (w.exponent-is ∙ rising a.minus a.size c.requires w.if-power.false)
    ] in
    let s = less_places a.minus a.size c.args.places c.min.result _ c.requires (c.if-power.exponent-is ∙ p) c.min.ensures in
    c.then_some.ensures ∙ scale_told a.minus a.size c.args.places _ c.requires s c.unsigned_abs.result c.unsigned_abs.ensures.value
