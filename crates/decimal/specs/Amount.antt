-- The float that number text stands for, within the limits of one rounding.
use Rattle.std.specs.Prelude.{ℕ, suc, ◌*◌, ◌^◌, Bool, false, cond, ◌&&◌, ◌||◌, List, [], ◌++◌, length, ℤ, pos, negsuc, ◌-ℤ◌, Some, None, Option, ◌==◌, nat_le, nat_lt, unsigned_abs, Float}
use Rattle.std.specs.Float.{binary64}
use Rattle.std.specs.Float.Ieee.{round}
use Rattle.number.specs.Widths.{under_sign}
use Rattle.number.specs.Numerals.{is_minus, sign_of, after_sign, numeral, value_after}
use Rattle.decimal.specs.Grammar.{Exponent, absent, power, Literal, places}

-- whether an exponent is negative, and its digits, of which an absent one has none
abbrev pub falls : Exponent → Bool
falls absent = false
falls (power capital s ds) = is_minus s

abbrev pub exponent_digits : Exponent → List ℕ
exponent_digits absent = []
exponent_digits (power capital s ds) = ds

-- both
abbrev pub heading : Exponent → Bool × List ℕ
heading x = (falls x, exponent_digits x)

-- the same of what follows the letter: an optional sign, and digits
abbrev pub power_of : List ℕ → Option (Bool × List ℕ)
power_of bs = cond (numeral (after_sign bs)) (Some (is_minus (sign_of bs), after_sign bs)) None

-- the exponent, less the number of digits after the point
abbrev pub scale : Bool → List ℕ → List ℕ → ℤ
scale down exponent after_point = under_sign down (value_after 0 exponent) -ℤ pos (length after_point)

-- from -22 to 22: that power of ten, or one over it, is a float exactly
abbrev pub in_reach : ℤ → Bool
in_reach e = nat_le (unsigned_abs e) 22

-- at most four exponent digits, a number below 10 ^ 15, and a scale in reach unless that number is 0
abbrev pub within : ℕ → ℕ → ℤ → Bool
within exponent_length w e = nat_le exponent_length 4 && (nat_lt w (10 ^ 15) && (w == 0 || in_reach e))

-- w times ten to the e as the nearest float, at a tie the even one: one rounding of the exact number
abbrev pub nearest_decimal : Bool → ℕ → ℤ → Float
nearest_decimal minus w (pos k) = round binary64 minus (w * 10 ^ k) 1
nearest_decimal minus w (negsuc k) = round binary64 minus w (10 ^ suc k)

-- all digits as one whole number, under their sign and times ten to the scale; none beyond the limits
abbrev pub amount : Bool → List ℕ → List ℕ → Bool → List ℕ → Option Float
amount minus whole after_point down exponent =
    let w = value_after 0 (whole ++ after_point) in
    let e = scale down exponent after_point in
    cond (within (length exponent) w e) (Some (nearest_decimal minus w e)) None

abbrev pub amount_of : Literal → Option Float
amount_of l = amount (is_minus l.sign) l.whole (places l.fraction) (falls l.exponent) (exponent_digits l.exponent)
