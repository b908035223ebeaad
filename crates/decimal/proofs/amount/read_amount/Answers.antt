use Rattle.std.proofs.Common.{sym, ◌∙◌, w32, SFits, rules}
use mir.ValLaws.{to_z-of_z}
use Rattle.std.proofs.lemmas.Bool.{ltb-true, ltb-false}
use Rattle.decimal.proofs.Amounts.{large_before, large_after, at_limit, at_zero, power_read, power_short, out_of_reach, measured}
use Rattle.decimal.proofs.amount.read_amount.Goals as goal

pub returns-in_err-before_point : goal.returns-in_err-before_point
returns-in_err-before_point c =
    c.from_residual.ensures ∙ large_before c.args.digits.whole.now c.args.digits.fraction.now c.args.digits.exponent.size.now c.args.digits.exponent.minus c.args.digits.wholes c.in_err-before_point.ensures

pub returns-in_err-number : goal.returns-in_err-number
returns-in_err-number c =
    c.from_residual-in_err-number.ensures
    ∙ large_after c.args.digits.whole.now c.args.digits.fraction.now c.args.digits.exponent.size.now c.args.digits.exponent.minus c.in_ok-before_point.before_point c.in_ok-before_point.ensures c.args.digits.fractions c.in_err-number.ensures

pub returns-then-not-is_read : goal.returns-then-not-is_read
returns-then-not-is_read c = at_limit c.args.digits.whole.now c.args.digits.fraction.now c.args.digits.exponent.size.now c.args.digits.exponent.minus c.in_ok-before_point.before_point c.in_ok-before_point.ensures c.in_ok-number.number c.in_ok-number.ensures (ltb-false _ _ (sym c.if-not-is_read.ensures))

pub returns-then-number-eq0 : goal.returns-then-number-eq0
returns-then-number-eq0 c = at_zero c.args.digits.whole.now c.args.digits.fraction.now c.args.digits.exponent.size.now c.args.digits.exponent.minus c.in_ok-before_point.before_point c.in_ok-before_point.ensures c.in_ok-number.number c.in_ok-number.ensures c.if-exponent-gt-EXPONENT_DIGITS.false c.if-number-eq0.true

pub returns-in_err-size : goal.returns-in_err-size
returns-in_err-size c =
    absurd (power_read c.args.digits.whole.now c.args.digits.fraction.now c.args.digits.exponent.size.now c.args.digits.exponent.minus c.in_ok-before_point.before_point c.in_ok-before_point.ensures c.in_ok-number.number c.in_ok-number.ensures c.if-exponent-gt-EXPONENT_DIGITS.false c.args.digits.exponents c.in_err-size.ensures)

pub find_scale-requires : goal.find_scale-requires
find_scale-requires c = power_short c.args.digits.whole.now c.args.digits.fraction.now c.args.digits.exponent.size.now c.args.digits.exponent.minus c.in_ok-before_point.before_point c.in_ok-before_point.ensures c.in_ok-number.number c.in_ok-number.ensures c.if-exponent-gt-EXPONENT_DIGITS.false (ltb-true _ _ (sym c.if-not-is_read.ensures)) c.if-number-eq0.false c.in_ok-size.size c.in_ok-size.ensures c.args.digits.exponents

pub returns-in_err-scale : goal.returns-in_err-scale
returns-in_err-scale c =
    c.from_residual-in_err-scale.ensures
    ∙ out_of_reach c.args.digits.whole.now c.args.digits.fraction.now c.args.digits.exponent.size.now c.args.digits.exponent.minus c.in_ok-before_point.before_point c.in_ok-before_point.ensures c.in_ok-number.number c.in_ok-number.ensures c.if-exponent-gt-EXPONENT_DIGITS.false (ltb-true _ _ (sym c.if-not-is_read.ensures)) c.if-number-eq0.false c.in_ok-size.size c.in_ok-size.ensures c.in_err-scale.ensures

pub returns : goal.returns
returns c =
    let f : SFits w32 c.in_ok-scale.scale = search rules in
    measured c.args.digits.whole.now c.args.digits.fraction.now c.args.digits.exponent.size.now c.args.digits.exponent.minus c.in_ok-before_point.before_point c.in_ok-before_point.ensures c.in_ok-number.number c.in_ok-number.ensures c.if-exponent-gt-EXPONENT_DIGITS.false (ltb-true _ _ (sym c.if-not-is_read.ensures)) c.if-number-eq0.false c.in_ok-size.size c.in_ok-size.ensures c.in_ok-scale.scale c.in_ok-scale.ensures
    c.scale_by_ten.result _ (to_z-of_z w32 c.in_ok-scale.scale f) c.scale_by_ten.ensures
