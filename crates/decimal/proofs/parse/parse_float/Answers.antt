use Rattle.std.proofs.Common.{◌≡◌, length, Some, None, Ok, Err, sym, ◌∙◌, arith, rules}
use lib.Ieee.{neg}
use Rattle.std.specs.Option.{option_map}
use Rattle.std.proofs.lemmas.Grind.{common_steps}
use Rattle.number.specs.Numerals.{is_minus, sign_of}
use Rattle.decimal.specs.declared.fault.NumberFault.TheVariants.{NotANumber}
use Rattle.decimal.specs.Amount.{heading, amount}
use Rattle.decimal.specs.Fault.{numbered, or_beyond, float_of_text}
use Rattle.decimal.specs.Grammar.{exponent_of}
use Rattle.decimal.proofs.Literals.{answered, grammar, one_literal}
use Rattle.decimal.proofs.Readings.{whole_digits, fraction_digits, exponent_all, read_as, beyond, plain, turned}
use Rattle.decimal.proofs.parse.parse_float.Goals.{In_ok-exponent}
use Rattle.decimal.proofs.parse.parse_float.Goals as goal

-- what is left after the fraction was read as an exponent
found : (c : In_ok-exponent) → Some (c.in_ok-exponent.exponent.minus, c.in_ok-exponent.exponent.size.now) ≡ option_map heading (exponent_of c.split_fraction.result.1.now)
found c = search rules

-- what the text is read as, where some digit stands beside the point
read : (c : In_ok-exponent) → (length c.split_digits.result.0.now ≡ 0 → length c.split_fraction.result.0.now ≡ 0 → ⊥)
    → or_beyond (amount (is_minus (sign_of c.args.text.now)) c.split_digits.result.0.now c.split_fraction.result.0.now c.in_ok-exponent.exponent.minus c.in_ok-exponent.exponent.size.now)
    ≡ float_of_text c.args.text.now
read c some =
    let s = c.split_sign-minus in
    let d = c.split_digits in
    let f = c.split_fraction in
    read_as c.args.text.now s.result.size.now _ d.result.1.now _ f.result.1.now s.ensures.rest d.ensures.digits d.ensures.rest f.ensures.digits f.ensures.rest _ _ (found c) some

pub returns-in_err-exponent : goal.returns-in_err-exponent
returns-in_err-exponent c =
    let v : numbered c.from_residual.result ≡ float_of_text c.args.text.now = search rules in
    record { value = v; answered = answered c.args.text.now _ v; grammar = grammar c.args.text.now; unique = one_literal }

pub returns-then-is_empty : goal.returns-then-is_empty
returns-then-is_empty c =
    let v : Err 13 ≡ float_of_text c.args.text.now = grind (arith, common_steps) in
    record { value = v; answered = answered c.args.text.now (Err NotANumber) v; grammar = grammar c.args.text.now; unique = one_literal }

pub invariant_of-digits : goal.invariant_of-digits
invariant_of-digits c =
    let s = c.split_sign-minus in
    let d = c.split_digits in
    let f = c.split_fraction in
    let e = found (goal.at.invariant_of-digits c).In_ok-exponent in
    record {
      wholes = whole_digits c.args.text.now s.result.size.now _ d.result.1.now _ f.result.1.now s.ensures.rest d.ensures.digits d.ensures.rest f.ensures.digits f.ensures.rest _ _ e;
      fractions = fraction_digits c.args.text.now s.result.size.now _ d.result.1.now _ f.result.1.now s.ensures.rest d.ensures.digits d.ensures.rest f.ensures.digits f.ensures.rest _ _ e;
      exponents = exponent_all c.args.text.now s.result.size.now _ d.result.1.now _ f.result.1.now s.ensures.rest d.ensures.digits d.ensures.rest f.ensures.digits f.ensures.rest _ _ e;
    }

pub returns-in_err-size : goal.returns-in_err-size
returns-in_err-size c =
    let n : None ≡ c.read_amount.result = search rules in
    let e : numbered c.from_residual-in_err-size.result ≡ Err 14 = search rules in
    let v = e ∙ (beyond c.split_digits.result.0.now c.split_fraction.result.0.now c.in_ok-exponent.exponent.size.now c.in_ok-exponent.exponent.minus (is_minus (sign_of c.args.text.now)) (n ∙ c.read_amount.ensures) ∙ read (goal.at.returns-in_err-size c).In_ok-exponent (λ h k. grind (arith, common_steps))) in
    record { value = v; answered = answered c.args.text.now _ v; grammar = grammar c.args.text.now; unique = one_literal }

pub returns-then-minus : goal.returns-then-minus
returns-then-minus c =
    let n : Some c.in_ok-size.size ≡ c.read_amount.result = search rules in
    let v = turned c.split_digits.result.0.now c.split_fraction.result.0.now c.in_ok-exponent.exponent.size.now c.in_ok-exponent.exponent.minus (is_minus (sign_of c.args.text.now)) c.in_ok-size.size (n ∙ c.read_amount.ensures) (sym c.split_sign-minus.ensures.minus ∙ c.if-minus.true) ∙ read (goal.at.returns-then-minus c).In_ok-exponent (λ h k. grind (arith, common_steps)) in
    record { value = v; answered = answered c.args.text.now (Ok (neg c.in_ok-size.size)) v; grammar = grammar c.args.text.now; unique = one_literal }

pub returns-else-minus : goal.returns-else-minus
returns-else-minus c =
    let n : Some c.in_ok-size.size ≡ c.read_amount.result = search rules in
    let v = plain c.split_digits.result.0.now c.split_fraction.result.0.now c.in_ok-exponent.exponent.size.now c.in_ok-exponent.exponent.minus (is_minus (sign_of c.args.text.now)) c.in_ok-size.size (n ∙ c.read_amount.ensures) (sym c.split_sign-minus.ensures.minus ∙ c.if-minus.false) ∙ read (goal.at.returns-else-minus c).In_ok-exponent (λ h k. grind (arith, common_steps)) in
    record { value = v; answered = answered c.args.text.now (Ok c.in_ok-size.size) v; grammar = grammar c.args.text.now; unique = one_literal }
