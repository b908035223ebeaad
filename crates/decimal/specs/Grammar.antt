-- Number text, as Rust's `f64::from_str` documents it, without the words inf, infinity and nan:
--     Sign?  ( Digit+ | Digit+ '.' Digit* | Digit* '.' Digit+ )  ( ( 'e' | 'E' ) Sign? Digit+ )?
use Rattle.std.specs.Prelude.{ℕ, Bool, true, cond, ◌&&◌, ◌||◌, List, [], ◌∷◌, ◌++◌, Some, None, Option, ◌==◌}
use Rattle.std.specs.Char.{is_ascii_digit}
use Rattle.number.specs.Numerals.{Sign, sign_bytes, sign_of, after_sign, numeral}

-- after the digits before the point: nothing, or a point and its places
pub data Fraction : Type 0 where
  pointless : Fraction
  point : List ℕ → Fraction

-- at the end: nothing, or a letter, which may be a capital, a sign and digits
pub data Exponent : Type 0 where
  absent : Exponent
  power : Bool → Sign → List ℕ → Exponent

-- number text by its parts
pub record Literal : Type 0 where
  pub sign : Sign
  pub whole : List ℕ
  pub fraction : Fraction
  pub exponent : Exponent

-- the digits after the point
abbrev pub places : Fraction → List ℕ
places pointless = []
places (point ds) = ds

abbrev pub fraction_bytes : Fraction → List ℕ
fraction_bytes pointless = []
fraction_bytes (point ds) = 46 ∷ ds

abbrev pub exponent_bytes : Exponent → List ℕ
exponent_bytes absent = []
exponent_bytes (power capital s ds) = cond capital 69 101 ∷ (sign_bytes s ++ ds)

-- the text that the parts are
abbrev pub spelled : Literal → List ℕ
spelled l = sign_bytes l.sign ++ (l.whole ++ (fraction_bytes l.fraction ++ exponent_bytes l.exponent))

-- an exponent that is there has at least one digit
abbrev pub sound_exponent : Exponent → Bool
sound_exponent absent = true
sound_exponent (power capital s ds) = numeral ds

-- at least one digit on some side of the point, and digits only
abbrev pub sound : Literal → Bool
sound l = numeral (l.whole ++ places l.fraction) && sound_exponent l.exponent

-- the digits that bytes begin with, and what follows them
abbrev pub front_digits : List ℕ → List ℕ
front_digits [] = []
front_digits (b ∷ bs) = cond (is_ascii_digit b) (b ∷ front_digits bs) []

abbrev pub past_digits : List ℕ → List ℕ
past_digits [] = []
past_digits (b ∷ bs) = cond (is_ascii_digit b) (past_digits bs) (b ∷ bs)

-- the fraction that bytes begin with, and what follows it
abbrev pub front_fraction : List ℕ → Fraction
front_fraction [] = pointless
front_fraction (b ∷ bs) = cond (b == 46) (point (front_digits bs)) pointless

abbrev pub past_fraction : List ℕ → List ℕ
past_fraction [] = []
past_fraction (b ∷ bs) = cond (b == 46) (past_digits bs) (b ∷ bs)

-- bytes that are an exponent from end to end
abbrev pub exponent_of : List ℕ → Option Exponent
exponent_of [] = Some absent
exponent_of (b ∷ bs) = cond ((b == 101 || b == 69) && numeral (after_sign bs)) (Some (power (b == 69) (sign_of bs) (after_sign bs))) None

abbrev pub closed : Sign → List ℕ → Fraction → Option Exponent → Option Literal
closed s ds f None = None
closed s ds f (Some x) = cond (numeral (ds ++ places f)) (Some (record { sign = s; whole = ds; fraction = f; exponent = x })) None

-- a text taken apart, where it is number text
abbrev pub literal : List ℕ → Option Literal
literal text =
    let body = after_sign text in
    let rest = past_digits body in
    closed (sign_of text) (front_digits body) (front_fraction rest) (exponent_of (past_fraction rest))
