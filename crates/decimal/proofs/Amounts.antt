-- The value of number text within its limits, and where they end.
use Rattle.std.proofs.Common.{◌≡◌, ℕ, ◌^◌, ◌<◌, ◌≤◌, Bool, true, false, cond, eqb, ltb, leb, List, ◌++◌, length, ℤ, pos, ◌-ℤ◌, Some, None, sym, refl, ap, ◌∙◌, arith}
use lib.Ieee.{Float, binary64, of_bits, neg}
use Rattle.std.specs.Option.{option_map}
use Rattle.std.specs.Str.{all_ascii_digits}
use Rattle.std.proofs.lemmas.Bool.{le-leb, lt-ltb, le-ltb, eq-eqb, ne_eqb, cond-true, cond-false, and_from, and_left, and_right, or_left, or_right, or_from}
use Rattle.number.specs.Numerals.{value_after, digits_after}
use Rattle.number.specs.Widths.{under_sign}
use Rattle.number.proofs.Reading.{value_append, value_ge, read_value, large_value, value_below, some_is, none_is}
use Rattle.decimal.specs.Amount.{scale, in_reach, within, nearest_decimal, amount}
use Rattle.decimal.proofs.Tens.{zero_scaled, neg_decimal}

module _ (whole fraction exponent : List ℕ) (down : Bool) where
  -- a number of 10 ^ 15 or more
  pub too_large : 10 ^ 15 ≤ value_after 0 (whole ++ fraction) → None ≡ amount false whole fraction down exponent
  too_large h = sym (cond-false _ _ _ (and_right (leb (length exponent) 4) _ (and_left _ _ (le-ltb _ _ h))))

  -- one that has more than 64 bits before the point already,
  pub large_before : all_ascii_digits whole ≡ true → None ≡ digits_after 0 whole → None ≡ amount false whole fraction down exponent
  large_before a e =
      let l : 2 ^ 64 ≤ value_after 0 whole = large_value 0 whole a e in
      let g : value_after 0 whole ≤ value_after (value_after 0 whole) fraction = value_ge (value_after 0 whole) fraction in
      too_large (omega (arith, value_append 0 whole fraction))

  module _ (before : ℕ) (b : Some before ≡ digits_after 0 whole) where
    -- or has them after it
    pub large_after : all_ascii_digits fraction ≡ true → None ≡ digits_after before fraction → None ≡ amount false whole fraction down exponent
    large_after a e =
        let l : 2 ^ 64 ≤ value_after before fraction = large_value before fraction a e in
        let q : value_after (value_after 0 whole) fraction ≡ value_after before fraction = ap (λ (n : ℕ). value_after n fraction) (read_value 0 before whole b) in
        too_large (omega (arith, value_append 0 whole fraction))

    module _ (number : ℕ) (n : Some number ≡ digits_after before fraction) where
      -- the number that was read
      number_is : value_after 0 (whole ++ fraction) ≡ number
      number_is = value_append 0 whole fraction ∙ (ap (λ (k : ℕ). value_after k fraction) (read_value 0 before whole b) ∙ read_value before number fraction n)

      pub at_limit : 10 ^ 15 ≤ number → None ≡ amount false whole fraction down exponent
      at_limit h = too_large (omega (arith, number_is))

      module _ (short : length exponent ≤ 4) where
        -- 0 is 0, whatever the scale
        pub at_zero : number ≡ 0 → Some (of_bits binary64 0) ≡ amount false whole fraction down exponent
        at_zero z =
            let w : value_after 0 (whole ++ fraction) ≡ 0 = number_is ∙ z in
            let e = scale down exponent fraction in
            ap Some (zero_scaled e ∙ ap (λ (k : ℕ). nearest_decimal false k e) (sym w))
            ∙ sym (cond-true _ _ _ (and_from _ _ (le-leb _ _ short) (and_from _ _ (lt-ltb _ _ (omega arith)) (or_left _ _ (eq-eqb _ _ w)))))

        -- an exponent that short was read
        pub power_read : all_ascii_digits exponent ≡ true → None ≡ digits_after 0 exponent → ⊥
        power_read a e = omega (arith, large_value 0 exponent a e, value_below exponent 4 a short)

        module _ (small : number < 10 ^ 15) (some : number ≡ 0 → ⊥) (power : ℕ) (p : Some power ≡ digits_after 0 exponent) where
          scale_is : under_sign down power -ℤ pos (length fraction) ≡ scale down exponent fraction
          scale_is = ap (λ (k : ℕ). under_sign down k -ℤ pos (length fraction)) (sym (read_value 0 power exponent p))

          pub power_short : all_ascii_digits exponent ≡ true → power < 10 ^ 4
          power_short a = omega (arith, value_below exponent 4 a short, read_value 0 power exponent p)

          -- a scale out of reach
          pub out_of_reach : None ≡ cond (in_reach (under_sign down power -ℤ pos (length fraction))) (Some (under_sign down power -ℤ pos (length fraction))) None → None ≡ amount false whole fraction down exponent
          out_of_reach e =
              let r : in_reach (scale down exponent fraction) ≡ false = sym (ap in_reach scale_is) ∙ none_is _ _ e in
              sym (cond-false _ _ _ (and_right (leb (length exponent) 4) _ (and_right (ltb (value_after 0 (whole ++ fraction)) (10 ^ 15)) _
              (or_from (eqb (value_after 0 (whole ++ fraction)) 0) _ (ne_eqb _ _ (λ z. some (sym number_is ∙ z))) r))))

          -- and one in reach
          module _ (s : ℤ) (f : Some s ≡ cond (in_reach (under_sign down power -ℤ pos (length fraction))) (Some (under_sign down power -ℤ pos (length fraction))) None) where
            pub reached : in_reach s ≡ true
            reached = let p = some_is (in_reach (under_sign down power -ℤ pos (length fraction))) _ s f in sym (ap in_reach p.1) ∙ p.0

            pub measured : (x : Float) (y : ℤ) → y ≡ s → x ≡ nearest_decimal false number y → Some x ≡ amount false whole fraction down exponent
            measured x y i e =
                let q = some_is (in_reach (under_sign down power -ℤ pos (length fraction))) _ s f in
                let z : s ≡ scale down exponent fraction = sym q.1 ∙ scale_is in
                ap Some (e ∙ (λ k. nearest_decimal false (sym number_is k) ((i ∙ z) k)))
                ∙ sym (cond-true _ _ _ (and_from _ _ (le-leb _ _ short) (and_from _ _ (lt-ltb _ _ (omega (arith, number_is))) (or_right (eqb (value_after 0 (whole ++ fraction)) 0) _ (sym (ap in_reach z) ∙ reached)))))

  -- a minus turns the value over
  pub amount_minus : amount true whole fraction down exponent ≡ option_map neg (amount false whole fraction down exponent)
  amount_minus =
      let w = value_after 0 (whole ++ fraction) in
      let e = scale down exponent fraction in
      turn (within (length exponent) w e) _ _ (neg_decimal w e)
    where
      turn : (b : Bool) (x y : Float) → neg x ≡ y → cond b (Some y) None ≡ option_map neg (cond b (Some x) None)
      turn true x y e = ap Some (sym e)
      turn false x y e = refl
