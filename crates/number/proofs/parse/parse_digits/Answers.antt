use Rattle.std.proofs.Common.{◌≡◌, ◌∙◌, ap, w64, SFits, rules}
use Rattle.std.specs.Option.{IfSome}
use mir.ValLaws.{to_z-of_z}
use Rattle.number.specs.Numerals.{digits_in}
use Rattle.number.specs.Widths.{fits, if_fits, narrow_whole}
use Rattle.number.proofs.Reading.{narrowed}
use Rattle.number.proofs.parse.parse_digits.Goals as goal

pub returns : goal.returns
returns g c =
    let w = g.W.Width.wide in
    let d = c.args.digits in
    let z = c.in_ok-number.number in
    let f : SFits w64 z = search rules in
    let narrow : IfSome c.then.result (λ x. g.W.Width.number x ≡ narrow_whole w z) = search rules in
    let digits : if_fits w z ≡ digits_in w d.minus d.size.now = search rules in
    narrowed g.W.Width.number _ w z (c.then.ensures.variant ∙ (c.holds.ensures ∙ ap (fits w) (to_z-of_z w64 z f))) narrow ∙ digits
