-- Whole numbers as text: what Rust's `str::parse` takes for one.
use Rattle.std.specs.Prelude.{◌≡◌, ℕ, ◌+◌, ◌-◌, ◌*◌, ◌^◌, Bool, true, false, cond, not, ◌&&◌, ◌||◌, List, [], ◌∷◌, ◌++◌, ℤ, Some, None, Option, ◌==◌, nat_lt}
use Rattle.std.specs.Str.{all_ascii_digits}
use Rattle.number.specs.Widths.{Wide, has_sign, fits, under_sign}

-- the number that decimal digits write, after those of n
abbrev pub value_after : ℕ → List ℕ → ℕ
value_after n [] = n
value_after n (b ∷ bs) = value_after (n * 10 + (b - 48)) bs

-- that number, where the bytes are digits and it has at most 64 bits
abbrev pub digits_after : ℕ → List ℕ → Option ℕ
digits_after n ds = cond (all_ascii_digits ds && nat_lt (value_after n ds) (2 ^ 64)) (Some (value_after n ds)) None

-- at least one digit, and nothing else
abbrev pub numeral : List ℕ → Bool
numeral [] = false
numeral (b ∷ bs) = all_ascii_digits (b ∷ bs)

-- digits under a sign, as a number of the width
abbrev pub digits_in : Wide → Bool → List ℕ → Option ℤ
digits_in w minus ds =
    let z = under_sign minus (value_after 0 ds) in
    cond (numeral ds && fits w z) (Some z) None

-- the ways to write a sign
pub data Sign : Type 0 where
  bare plus minus : Sign

abbrev pub sign_bytes : Sign → List ℕ
sign_bytes bare = []
sign_bytes plus = 43 ∷ []
sign_bytes minus = 45 ∷ []

abbrev pub is_minus : Sign → Bool
is_minus bare = false
is_minus plus = false
is_minus minus = true

-- the sign that a text begins with, and what follows it
abbrev pub sign_of : List ℕ → Sign
sign_of [] = bare
sign_of (b ∷ bs) = cond (b == 43) plus (cond (b == 45) minus bare)

abbrev pub after_sign : List ℕ → List ℕ
after_sign [] = []
after_sign (b ∷ bs) = cond (b == 43 || b == 45) bs (b ∷ bs)

-- The number that a text writes in a width: an optional sign, a minus only where the width has one, and digits.
abbrev pub whole_of_text : Wide → List ℕ → Option ℤ
whole_of_text w text =
    let minus = is_minus (sign_of text) in
    cond (minus && not (has_sign w)) None (digits_in w minus (after_sign text))

-- The text writes the number z of the width w: it is a sign that the width has, and some digits; z is their number under that sign, and fits.
pub record Writes (w : Wide) (text : List ℕ) (z : ℤ) : Type 0 where
  pub sign : Sign
  pub digits : List ℕ
  pub whole : text ≡ sign_bytes sign ++ digits
  pub some : numeral digits ≡ true
  pub allowed : (not (is_minus sign) || has_sign w) ≡ true
  pub value : under_sign (is_minus sign) (value_after 0 digits) ≡ z
  pub room : fits w z ≡ true
